use Rattle.std.proofs.Common.{◌∙◌, length, sym, ap, subst, arith}
use Rattle.rr_syntax.specs.View.{plain_source}
use Rattle.rr_syntax.proofs.ItemLengths.{source_len}
use Rattle.rr_lex.specs.Tokens.{lexemes, Rise}
use Rattle.rr_lex.proofs.Steps.{lex_rise}
use Rattle.rr_choice.specs.Sites.{IsSiteList}
use Rattle.rr_choice.specs.View.{plain_sites}
use Rattle.rr_patch.proofs.Printed.{source_room}
use Rattle.rr_kept.specs.Kept.{is_kept}
use Rattle.rr_kept.proofs.BodyTable.{source_short}
use Rattle.rr_kept.proofs.Sublists.{listed_filter}
use Rattle.rr_kept.proofs.keeping.kept.Goals as goal

pub kept_sites-requires-clause-spans : goal.kept_sites-requires-clause-spans
kept_sites-requires-clause-spans c =
    subst (λ n. Rise 0 n (lexemes c.args.tokens.now)) (c.args.expanded.now.same ∙ ap length (sym c.deref.ensures.value)) (lex_rise c.args.expanded.now.text.items (lexemes c.args.tokens.now) c.requires.tokens)

pub kept_sites-requires-clause-few : goal.kept_sites-requires-clause-few
kept_sites-requires-clause-few c k =
    let a = c.in_ok-bodies.ensures k in
    let b = source_short k (plain_source c.args.source.now) in
    let d = source_len c.args.source.now in
    let e = source_room c.args.expanded.now.text.items c.args.tokens.now c.args.source.now c.requires.few c.requires.tokens c.requires.tree in
    omega (arith, a, b, d, e)

pub new-requires : goal.new-requires
new-requires c =
    subst IsSiteList (sym (c.in_ok-sites.ensures (plain_source c.args.source.now) c.in_ok-bodies.ensures))
    (listed_filter (is_kept c.deref.result.now (lexemes c.args.tokens.now) (plain_source c.args.source.now)) (plain_sites c.sites.result.now) (subst IsSiteList (sym c.sites.ensures.same) c.sites.ensures.kept))
