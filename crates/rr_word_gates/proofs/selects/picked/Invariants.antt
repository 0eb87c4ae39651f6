use Rattle.rr_arith.proofs.ShiftLaws.{Filled}
use Rattle.rr_word_gates.proofs.SelectLaws.{picked_bit}
use Rattle.rr_word_gates.proofs.selects.picked.Given as goal

abbrev pub invariant-loop-i : goal.invariant-loop-i
invariant-loop-i l = Filled l.b l.b (picked_bit l.b l.xs l.from) l.out.items l.i
