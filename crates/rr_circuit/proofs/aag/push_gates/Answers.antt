use Rattle.std.proofs.Common.{◌∙◌}
use Rattle.rr_circuit.proofs.AagParts.{gate_pushed}
use Rattle.rr_circuit.proofs.aag.push_gates.Goals as goal

pub loop-number-preserved : goal.loop-number-preserved
loop-number-preserved c = c.in_ok-push_gate_line.ensures ∙ gate_pushed _ _ _ _ _ c.loop-number.invariant (record { left = record { 0 = 0 }; right = record { 0 = 0 } }) c.loop-number-test.true
