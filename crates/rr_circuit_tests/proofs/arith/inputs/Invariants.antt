use Rattle.std.proofs.Common.{◌≡◌, length}
use Rattle.rr_circuit.specs.Values.{AreWires}
use Rattle.rr_circuit_tests.proofs.arith.inputs.Given as goal

abbrev pub invariant-loop-i : goal.invariant-loop-i
invariant-loop-i l = record { width : length l.wires.items ≡ l.i; wires : AreWires l.b l.wires.items }
