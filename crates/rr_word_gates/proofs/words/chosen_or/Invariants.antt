use Rattle.rr_arith.proofs.ShiftLaws.{Filled}
use Rattle.rr_word_gates.proofs.WordLaws.{chosen_or_bit}
use Rattle.rr_word_gates.proofs.words.chosen_or.Given as goal

abbrev pub invariant-loop-i : goal.invariant-loop-i
invariant-loop-i l = Filled l.fn.b l.b (chosen_or_bit l.fn.b l.test l.xs l.other) l.out.items l.i
