use Rattle.rr_arith.proofs.Ripple.{Rippled}
use Rattle.rr_arith.proofs.sum.Given as goal

abbrev pub invariant-loop-i : goal.invariant-loop-i
invariant-loop-i l = Rippled l.fn.b l.b l.x l.y l.sums.items l.fn.carry l.rest l.i
