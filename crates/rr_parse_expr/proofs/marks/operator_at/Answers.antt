use Rattle.std.proofs.Common.{◌≡◌, ℕ, ◌≤◌, false, nat_le, arith, refl, ap, sym, ◌∙◌}
use Rattle.std.proofs.lemmas.Bool.Decides.{nat_tests}
use Rattle.rr_syntax.specs.Tree.{Tree}
use Rattle.rr_syntax.specs.Expressions.{infix_level}
use Rattle.rr_syntax.specs.View.{plain}
use Rattle.rr_parse_expr.specs.Reading.{goes_on, no_mark}
use Rattle.rr_parse_expr.proofs.Facts.{infix-no_mark}
use Rattle.rr_parse_expr.proofs.FrontMarks.{mark_found, mark_missing}
use Rattle.rr_parse_expr.proofs.marks.operator_at.Goals as goal

none_goes_on : (limit low : ℕ) (t : Tree) → 1 ≤ low → goes_on limit low t no_mark ≡ false
unfolding goes_on
none_goes_on limit low t h = let e : nat_le low (infix_level no_mark) ≡ false = rw infix-no_mark (grind (arith, nat_tests)) in rw e refl

pub returns-in-None : goal.returns-in-None
returns-in-None c = ap (goes_on c.args.limit c.args.low (plain c.args.left.now.expr)) (mark_missing _ c.in-None.ensures) ∙ none_goes_on c.args.limit c.args.low (plain c.args.left.now.expr) c.requires.low_level

pub returns-then-goes_on : goal.returns-then-goes_on
returns-then-goes_on c = record { stands = mark_found _ c.in-Some.ensures; goes = sym c.goes_on.ensures ∙ c.if-goes_on.true }

pub returns-else-goes_on : goal.returns-else-goes_on
returns-else-goes_on c = ap (goes_on c.args.limit c.args.low (plain c.args.left.now.expr)) (mark_found _ c.in-Some.ensures) ∙ (sym c.goes_on.ensures ∙ c.if-goes_on.false)
