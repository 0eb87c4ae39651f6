use Rattle.std.proofs.Common.{◌≡◌}
use Rattle.rr_circuit.proofs.Copies.{Copied}
use Rattle.rr_circuit.proofs.gates_copied.Given as goal

abbrev pub invariant-loop-gate : goal.invariant-loop-gate
invariant-loop-gate l = record {
  copied : Copied l.fn.b l.b l.inputs l.circuit.netlist l.copies.items l.gate-index;
  gates : l.gate-items ≡ l.circuit.netlist.gates;
}
