use Rattle.std.proofs.Common.{◌≡◌}
use Rattle.rr_circuit.specs.Values.{AreWires}
use Rattle.rr_circuit_tests.proofs.gates.make_all.Given as goal

abbrev pub invariant-loop-step : goal.invariant-loop-step
invariant-loop-step l = record { inputs : l.b.inputs ≡ l.inputs; made : AreWires l.b l.made.items }
