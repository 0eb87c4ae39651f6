use Rattle.std.proofs.Common.{◌∙◌}
use Rattle.rr_circuit.proofs.AagParts.{input_pushed}
use Rattle.rr_circuit.proofs.aag.push_inputs.Goals as goal

pub loop-k-preserved : goal.loop-k-preserved
loop-k-preserved c = c.in_ok-push_number.ensures ∙ input_pushed _ _ _ c.loop-k.invariant
