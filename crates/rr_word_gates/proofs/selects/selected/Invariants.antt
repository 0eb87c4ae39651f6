use Rattle.rr_arith.proofs.ShiftLaws.{Filled}
use Rattle.rr_word_gates.proofs.SelectLaws.{selected_bit}
use Rattle.rr_word_gates.proofs.selects.selected.Given as goal

abbrev pub invariant-loop-i : goal.invariant-loop-i
invariant-loop-i l = Filled l.fn.b l.b (selected_bit l.fn.b l.xs l.ys l.signed l.range l.below) l.out.items l.i
