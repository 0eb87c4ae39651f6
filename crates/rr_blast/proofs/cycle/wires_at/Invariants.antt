use Rattle.std.proofs.Common.{◌≡◌, ℕ, Bool, map, take}
use Rattle.rr_circuit.specs.Values.{Netlist, AreWires, wire_values}
use Rattle.rr_signal_wires.specs.Words.{AreWords, carried}
use Rattle.rr_blast.proofs.cycle.wires_at.Given as goal

abbrev pub invariant-loop-bit : goal.invariant-loop-bit
invariant-loop-bit l = record {
  wires : (n : Netlist) → AreWords n l.words → AreWires n l.wires.items;
  value : (n : Netlist) (env : ℕ → Bool) → wire_values n env l.wires.items ≡ map (carried n env l.words) (take l.bit-index l.bits);
}
