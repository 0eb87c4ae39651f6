use Rattle.std.proofs.Common.{◌≡◌, ◌++◌, take}
use Rattle.rr_circuit.specs.Aag.{text_of, output_lines}
use Rattle.rr_circuit.proofs.aag.push_outputs.Given as goal

abbrev pub invariant-loop-wire : goal.invariant-loop-wire
invariant-loop-wire l = l.out.items ≡ l.fn.out.items ++ text_of (output_lines (take l.wire-index l.outputs))
