use Rattle.std.proofs.Common.{◌≡◌, ℕ, Bool, ◌++◌, take}
use Rattle.rr_circuit.specs.Values.{AreWires, wire_values}
use Rattle.rr_unroll.proofs.wires.followed.Given as goal

abbrev pub invariant-loop-bit : goal.invariant-loop-bit
invariant-loop-bit l = record {
  wires : AreWires l.b l.all.items;
  value : (env : ℕ → Bool) → wire_values l.b env l.all.items ≡ wire_values l.b env l.wires ++ take l.bit-index l.bits;
}
