use Rattle.std.proofs.Common.{◌≡◌, ℕ, Bool, take}
use Rattle.rr_circuit.specs.Values.{AreWires, wire_values}
use Rattle.rr_transition.specs.Transitions.{switched}
use Rattle.rr_unroll.proofs.wires.switched.Given as goal

abbrev pub invariant-loop-place : goal.invariant-loop-place
invariant-loop-place l = record {
  wires : AreWires l.b l.out.items;
  value : (env : ℕ → Bool) → wire_values l.b env l.out.items ≡ switched (take l.place-index l.places) (wire_values l.b env l.choice);
}
