use Rattle.std.proofs.Common.{◌≡◌, false, refl, ap, sym, ◌∙◌}
use Rattle.rr_parse_expr.specs.Reading.{is_between, no_mark}
use Rattle.rr_parse_expr.proofs.FrontMarks.{mark_found, mark_missing}
use Rattle.rr_parse_expr.proofs.marks.between_at.Goals as goal

none_between : is_between no_mark ≡ false
unfolding is_between
none_between = refl

pub returns-in-None : goal.returns-in-None
returns-in-None c = ap is_between (mark_missing _ c.in-None.ensures) ∙ none_between

pub returns-then-is_between : goal.returns-then-is_between
returns-then-is_between c = record { stands = mark_found _ c.in-Some.ensures; parts = sym c.is_between.ensures ∙ c.if-is_between.true }

pub returns-else-is_between : goal.returns-else-is_between
returns-else-is_between c = ap is_between (mark_found _ c.in-Some.ensures) ∙ (sym c.is_between.ensures ∙ c.if-is_between.false)
