use Rattle.rr_arith.proofs.ShiftLaws.{Filled}
use Rattle.rr_word_gates.proofs.WordLaws.{extended_bit}
use Rattle.rr_word_gates.proofs.words.extended.Given as goal

abbrev pub invariant-loop-i : goal.invariant-loop-i
invariant-loop-i l = Filled l.b l.b (extended_bit l.b l.xs l.signed) l.out.items l.i
