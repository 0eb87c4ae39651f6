use Rattle.std.proofs.Common.{nat_lt}
use Rattle.rr_arith.proofs.Comparisons.{Compared}
use Rattle.rr_arith.proofs.less_unsigned.Given as goal

abbrev pub invariant-loop-i : goal.invariant-loop-i
invariant-loop-i l = Compared nat_lt l.fn.b l.b l.x l.y l.below l.i
