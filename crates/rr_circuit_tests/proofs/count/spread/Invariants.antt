use Rattle.std.proofs.Common.{◌≡◌, length}
use Rattle.rr_circuit_tests.proofs.count.spread.Given as goal

abbrev pub invariant-loop-i : goal.invariant-loop-i
invariant-loop-i l = length l.inputs.items ≡ l.i
