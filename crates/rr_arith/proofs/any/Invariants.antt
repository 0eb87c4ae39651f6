use Rattle.rr_arith.proofs.ShiftLaws.{Any}
use Rattle.rr_arith.proofs.any.Given as goal

abbrev pub invariant-loop-i : goal.invariant-loop-i
invariant-loop-i l = Any l.fn.b l.b l.x l.any l.i
