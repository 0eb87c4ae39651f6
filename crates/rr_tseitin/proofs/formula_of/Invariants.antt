use Rattle.std.proofs.Common.{◌≡◌, ◌+◌, ◌++◌, length, take}
use Rattle.std.specs.Prelude.{flat_map}
use Rattle.rr_tseitin.specs.Tseitin.{gates_clauses, output_clauses}
use Rattle.rr_tseitin.proofs.formula_of.Given as goal

abbrev pub invariant-loop-gate : goal.invariant-loop-gate
invariant-loop-gate l = record {
  formula : l.formula ≡ record { vars = l.circuit.netlist.inputs + length l.circuit.netlist.gates; clauses = gates_clauses (l.circuit.netlist.inputs + 1) (take l.gate-index l.circuit.netlist.gates) };
  gates : l.gate-items ≡ l.circuit.netlist.gates;
  var : l.var ≡ l.circuit.netlist.inputs + l.gate-index;
}

abbrev pub invariant-loop-wire : goal.invariant-loop-wire
invariant-loop-wire l = record {
  formula : l.formula ≡ record { vars = l.circuit.netlist.inputs + length l.circuit.netlist.gates; clauses = gates_clauses (l.circuit.netlist.inputs + 1) l.circuit.netlist.gates ++ flat_map output_clauses (take l.wire-index l.circuit.outputs) };
  outputs : l.wire-items ≡ l.circuit.outputs;
}
