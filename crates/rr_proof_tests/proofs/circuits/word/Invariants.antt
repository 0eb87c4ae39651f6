use Rattle.std.proofs.Common.{◌≡◌, length}
use Rattle.rr_circuit.specs.Values.{AreWires}
use Rattle.rr_proof_tests.proofs.circuits.word.Given as goal

abbrev pub invariant-loop-number : goal.invariant-loop-number
invariant-loop-number l = AreWires l.builder l.wires.items × (length l.wires.items ≡ l.number)
