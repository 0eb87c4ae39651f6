use Rattle.rr_arith.proofs.ShiftLaws.{Filled}
use Rattle.rr_word_gates.proofs.WordLaws.{inverted_bit}
use Rattle.rr_word_gates.proofs.words.inverted.Given as goal

abbrev pub invariant-loop-i : goal.invariant-loop-i
invariant-loop-i l = Filled l.b l.b (inverted_bit l.b l.xs) l.out.items l.i
