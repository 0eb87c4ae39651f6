use Rattle.std.proofs.Common.{false}
use Rattle.rr_arith.proofs.ShiftLaws.{Filled}
use Rattle.rr_word_gates.proofs.words.negated.Given as goal

abbrev pub invariant-loop-i : goal.invariant-loop-i
invariant-loop-i l = Filled l.b l.b (λ input k. false) l.zeros.items l.i
