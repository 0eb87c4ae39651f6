use Rattle.std.proofs.Common.{ap, sym, ◌∙◌}
use Rattle.rr_syntax.specs.Statements.{is_case}
use Rattle.rr_parse_stmt.proofs.FrontWords.{keyword_found, keyword_missing}
use Rattle.rr_parse_stmt.proofs.parts.case_at.Goals as goal

pub returns-in-None : goal.returns-in-None
returns-in-None c = ap is_case (keyword_missing _ c.in-None.ensures)

pub returns-then-is_case : goal.returns-then-is_case
returns-then-is_case c = record { stands = keyword_found _ c.in-Some.ensures; begins = sym c.is_case.ensures ∙ c.if-is_case.true }

pub returns-else-is_case : goal.returns-else-is_case
returns-else-is_case c = ap is_case (keyword_found _ c.in-Some.ensures) ∙ (sym c.is_case.ensures ∙ c.if-is_case.false)
