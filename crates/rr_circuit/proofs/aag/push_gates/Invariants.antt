use Rattle.std.proofs.Common.{◌≡◌, ◌++◌, take}
use Rattle.rr_circuit.specs.Aag.{text_of, gate_lines}
use Rattle.rr_circuit.proofs.aag.push_gates.Given as goal

abbrev pub invariant-loop-number : goal.invariant-loop-number
invariant-loop-number l = l.out.items ≡ l.fn.out.items ++ text_of (gate_lines l.variable (take l.number l.gates))
