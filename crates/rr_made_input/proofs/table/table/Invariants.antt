use Rattle.rr_made_input.proofs.TextLaws.{Tabled}
use Rattle.rr_made_input.proofs.table.table.Given as goal

abbrev pub invariant-loop-row : goal.invariant-loop-row
invariant-loop-row l = Tabled l.seed l.row l.draws.state l.text.items l.values.items
