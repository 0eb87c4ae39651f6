use Rattle.rr_made_input.proofs.TextLaws.{Lined}
use Rattle.rr_made_input.proofs.table.push_line.Given as goal

abbrev pub invariant-loop-i : goal.invariant-loop-i
invariant-loop-i l = Lined l.numbers l.initial.text.items l.text.items l.i
