use Rattle.std.proofs.Common.{◌∙◌, ◌++◌, ap, sym}
use Rattle.rr_circuit.specs.Aag.{text_of}
use Rattle.rr_circuit.proofs.AagLaws.{text_grows}
use Rattle.rr_circuit.proofs.AagParts.{inputs_wrong, input_lines-more}
use Rattle.rr_circuit.proofs.aag.read_inputs.Goals as goal

pub returns-in-None-clause-err : goal.returns-in-None-clause-err
returns-in-None-clause-err c = inputs_wrong _ _ _ _ c.loop-k.invariant c.loop-k-test.true c.in-None.ensures.none

pub loop-k-preserved : goal.loop-k-preserved
loop-k-preserved c = text_grows _ _ _ _ _ c.loop-k.invariant c.in-Some.ensures.some ∙ ap (λ z. text_of z ++ c.in-Some.after.now) (sym (input_lines-more c.loop-k.k))
