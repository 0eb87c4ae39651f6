use Rattle.std.proofs.Common.{◌≡◌, take, fold}
use Rattle.rr_circuit.specs.Values.{given, with_gate, input_values, variable_values, wire_values}
use Rattle.rr_circuit.proofs.Circuit.eval.Given as goal

abbrev pub invariant-loop-gate : goal.invariant-loop-gate
invariant-loop-gate l = record {
  values : l.values.items ≡ fold with_gate (input_values l.self.netlist.inputs (given l.inputs)) (take l.gate-index l.self.netlist.gates);
  gates : l.gate-items ≡ l.self.netlist.gates;
}

abbrev pub invariant-loop-wire : goal.invariant-loop-wire
invariant-loop-wire l = record {
  values : l.values.items ≡ variable_values l.self.netlist (given l.inputs);
  outputs : l.outputs.items ≡ wire_values l.self.netlist (given l.inputs) (take l.wire-index l.self.outputs);
  items : l.wire-items ≡ l.self.outputs;
}
