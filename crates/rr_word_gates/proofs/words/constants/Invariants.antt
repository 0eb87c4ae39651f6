use Rattle.std.proofs.Common.{get_or, false}
use Rattle.rr_arith.proofs.ShiftLaws.{Filled}
use Rattle.rr_word_gates.proofs.words.constants.Given as goal

abbrev pub invariant-loop-i : goal.invariant-loop-i
invariant-loop-i l = Filled l.b l.b (λ input k. get_or l.bits k false) l.out.items l.i
