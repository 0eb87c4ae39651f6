use Rattle.std.proofs.Common.{◌≡◌, map, take}
use Rattle.rr_circuit.specs.Sweeps.{moved_wire}
use Rattle.rr_circuit.proofs.Circuit.swept.Given as goal

abbrev pub invariant-loop-wire : goal.invariant-loop-wire
invariant-loop-wire l = record {
  outputs : l.outputs.items ≡ map (moved_wire l.variables.items) (take l.wire-index l.self.outputs);
  items : l.wire-items ≡ l.self.outputs;
}
