use Rattle.std.proofs.Common.{◌≡◌, ◌≤◌, ℕ, Bool, drop, length}
use Rattle.rr_circuit.specs.Values.{Netlist, AreWires, wire_values}
use Rattle.rr_transition.specs.Placed.{placed}
use Rattle.rr_signal_wires.specs.Words.{AreWords, carried, widths_of}
use Rattle.rr_blast.proofs.beginning.put_bits.Given as goal

abbrev pub invariant-loop-left : goal.invariant-loop-left
invariant-loop-left l = record {
  left : l.left ≤ length l.bits;
  words : (n : Netlist) → AreWords n l.fn.words.items → AreWires n l.wires → AreWords n l.words.items;
  value : (n : Netlist) (env : ℕ → Bool) → carried n env l.words.items ≡ placed (drop l.left l.bits) (drop l.left (wire_values n env l.wires)) (carried n env l.fn.words.items);
  widths : widths_of l.words.items ≡ widths_of l.fn.words.items;
}

abbrev pub decreases-loop-left : goal.decreases-loop-left
decreases-loop-left l = l.left
