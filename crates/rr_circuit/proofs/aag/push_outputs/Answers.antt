use Rattle.std.proofs.Common.{◌∙◌}
use Rattle.rr_circuit.proofs.AagParts.{output_pushed}
use Rattle.rr_circuit.proofs.aag.push_outputs.Goals as goal

pub loop-wire-preserved : goal.loop-wire-preserved
loop-wire-preserved c = c.in_ok-push_number.ensures ∙ output_pushed _ _ _ _ c.loop-wire.invariant (record { 0 = 0 }) c.loop-wire-test.true
