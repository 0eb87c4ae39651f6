use Rattle.std.proofs.Common.{◌≡◌, ◌++◌}
use Rattle.rr_circuit.specs.Aag.{text_of, input_lines}
use Rattle.rr_circuit.proofs.aag.push_inputs.Given as goal

abbrev pub invariant-loop-k : goal.invariant-loop-k
invariant-loop-k l = l.out.items ≡ l.fn.out.items ++ text_of (input_lines l.k)
