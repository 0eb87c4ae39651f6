use Rattle.std.proofs.Common.{◌++◌, false, List, sym, ap₂, ◌∙◌, subst, arith}
use Rattle.std.proofs.lemmas.Grind.{common_steps}
use Rattle.rr_syntax.specs.declared.site.SiteKind.TheVariants as kind
use Rattle.rr_choice.specs.declared.pick.Pick.{Pick}
use Rattle.rr_choice.specs.Sites.{Site, IsSiteList, IsFirstAt}
use Rattle.rr_respell.specs.Pieces.{puts}
use Rattle.rr_patch.specs.Changes.{changes, plain_changes}
use Rattle.rr_patch.specs.Walks.{rounds}
use Rattle.rr_patch.proofs.Bodies.{rounds_start, rounds_next, rounds_end, rounds_over}
use Rattle.rr_patch.proofs.body.rounds.Goals as goal

pub loop-i-init : goal.loop-i-init
loop-i-init c = record {
  count = grind (arith, common_steps);
  first = omega arith;
  done = rounds_start c.args.side c.args.token c.args.place c.sites-sites.result.now c.as_slice-picks.result.now (plain_changes c.args.out.now.items) c.first_at-i.result
      (subst (λ (ss : List Site). IsFirstAt ss c.args.token c.first_at-i.result) (sym c.sites-sites.ensures.same) c.first_at-i.ensures);
}

pub loop-i-preserved : goal.loop-i-preserved
loop-i-preserved c =
    let n = c.loop-i.invariant.count in
    let l = c.loop-i-test.true in
    let f = c.loop-i.invariant.first in
    record {
      count = n;
      first = omega (arith, f);
      done = rounds_next c.args.side c.args.token c.args.place c.sites-sites.result.now c.as_slice-picks.result.now (plain_changes c.loop-i.out.items) (plain_changes c.round_if_on.new.out.items) c.loop-i.i
          (record { kind = kind.Literal 0 false; token = 0 }) (record { on = false; value = 0; form = 0; name = 0 }) (omega (arith, n, l)) (omega (arith, n, l)) c.if-site-token.false c.in_ok-round_if_on.ensures
          ∙ c.loop-i.invariant.done;
    }

pub returns : goal.returns
returns c =
    let n = c.loop-i.invariant.count in
    let l = c.loop-i-test.false in
    let e = ap₂ (λ (ss : List Site) (ps : List Pick). plain_changes c.args.out.now.items ++ changes c.args.place (puts (rounds c.args.side c.args.token ss ps))) c.sites-sites.ensures.same c.as_slice-picks.ensures.value in
    rounds_end c.args.side c.args.token c.args.place c.sites-sites.result.now c.as_slice-picks.result.now (plain_changes c.loop-i.out.items) c.loop-i.i (omega (arith, n, l)) ∙ c.loop-i.invariant.done ∙ e

pub returns-then-site-token : goal.returns-then-site-token
returns-then-site-token c =
    let n = c.loop-i.invariant.count in
    let l = c.loop-i-test.true in
    let e = ap₂ (λ (ss : List Site) (ps : List Pick). plain_changes c.args.out.now.items ++ changes c.args.place (puts (rounds c.args.side c.args.token ss ps))) c.sites-sites.ensures.same c.as_slice-picks.ensures.value in
    rounds_over c.args.side c.args.token c.args.place c.sites-sites.result.now c.as_slice-picks.result.now (plain_changes c.loop-i.out.items) c.first_at-i.result c.loop-i.i (record { kind = kind.Literal 0 false; token = 0 })
    (subst IsSiteList (sym c.sites-sites.ensures.same) c.sites-sites.ensures.kept) (subst (λ (ss : List Site). IsFirstAt ss c.args.token c.first_at-i.result) (sym c.sites-sites.ensures.same) c.first_at-i.ensures)
    c.loop-i.invariant.first (omega (arith, n, l)) c.if-site-token.true
    ∙ c.loop-i.invariant.done ∙ e
