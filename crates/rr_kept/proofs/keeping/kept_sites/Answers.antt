use Rattle.std.proofs.Common.{nat_eq, unwrap_or}
use Rattle.indexmap.specs.IndexMap.{get}
use Rattle.rr_lex.specs.Tokens.{lexemes}
use Rattle.rr_kept.proofs.Sublists.{kept_yes, kept_no}
use Rattle.rr_kept.proofs.keeping.kept_sites.Goals as goal
use Rattle.rr_kept.proofs.keeping.kept_sites.Goals.{then-is_kept+in_ok-push, else-is_kept}

pub loop-site-preserved : goal.loop-site-preserved
loop-site-preserved c =
    elim c.if-is_kept.branch [
      | then-is_kept+in_ok-push w ↦
          rw (w.sites-is, w.in_ok-push.ensures.items)
          (record { done = kept_yes c.args.origins.now (lexemes c.args.tokens.now) (λ k. unwrap_or (get nat_eq c.args.bodies.now k) 0) c.args.list.now c.loop-site.sites.items c.loop-site.site-index _ c.loop-site-test.true c.loop-site.invariant.done w.if-is_kept.ensures })
      | else-is_kept w ↦
          rw w.sites-is
          (record { done = kept_no c.args.origins.now (lexemes c.args.tokens.now) (λ k. unwrap_or (get nat_eq c.args.bodies.now k) 0) c.args.list.now c.loop-site.sites.items c.loop-site.site-index _ c.loop-site-test.true c.loop-site.invariant.done w.if-is_kept.ensures })
    ]
