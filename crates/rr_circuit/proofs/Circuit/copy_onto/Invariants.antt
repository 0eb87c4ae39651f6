use Rattle.std.proofs.Common.{◌≡◌, ℕ, Bool, take}
use Rattle.rr_circuit.specs.Values.{AreWires, wire_values, given}
use Rattle.rr_circuit.proofs.Circuit.copy_onto.Given as goal

abbrev pub invariant-loop-wire : goal.invariant-loop-wire
invariant-loop-wire l = record {
  wires : AreWires l.b l.outputs.items;
  value : (env : ℕ → Bool) → wire_values l.b env l.outputs.items ≡ wire_values l.self.netlist (given (wire_values l.fn.b env l.inputs)) (take l.wire-index l.self.outputs);
  items : l.wire-items ≡ l.self.outputs;
}
