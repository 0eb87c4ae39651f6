use Rattle.std.proofs.Common.{◌==◌}
use Rattle.rr_arith.proofs.Comparisons.{Compared}
use Rattle.rr_arith.proofs.equal.Given as goal

abbrev pub invariant-loop-i : goal.invariant-loop-i
invariant-loop-i l = Compared (λ a b. a == b) l.fn.b l.b l.x l.y l.same l.i
