use Rattle.std.proofs.Common.{◌≡◌, ◌++◌}
use Rattle.rr_circuit.specs.Aag.{text_of, input_lines}
use Rattle.rr_circuit.proofs.aag.read_inputs.Given as goal

abbrev pub invariant-loop-k : goal.invariant-loop-k
invariant-loop-k l = l.text ≡ text_of (input_lines l.k) ++ l.rest
