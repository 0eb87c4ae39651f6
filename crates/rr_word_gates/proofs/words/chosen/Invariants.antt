use Rattle.rr_arith.proofs.ShiftLaws.{Filled}
use Rattle.rr_word_gates.proofs.WordLaws.{chosen_bit}
use Rattle.rr_word_gates.proofs.words.chosen.Given as goal

abbrev pub invariant-loop-i : goal.invariant-loop-i
invariant-loop-i l = Filled l.fn.b l.b (chosen_bit l.fn.b l.test l.xs l.ys) l.out.items l.i
