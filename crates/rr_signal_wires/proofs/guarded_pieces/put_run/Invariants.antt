use Rattle.std.proofs.Common.{◌≡◌, ◌≤◌, ℕ, Bool, cond}
use Rattle.rr_circuit.specs.Values.{Extends, wire_value, wire_values}
use Rattle.rr_signal_wires.specs.Words.{AreWords, carried, widths_of}
use Rattle.rr_signal_wires.proofs.RunLaws.{part}
use Rattle.rr_signal_wires.proofs.guarded_pieces.put_run.Given as goal

abbrev pub invariant-loop-place : goal.invariant-loop-place
invariant-loop-place l = record {
  extends : Extends l.fn.b l.b;
  low : l.low ≤ l.place;
  words : AreWords l.b l.words.items;
  widths : widths_of l.words.items ≡ widths_of l.fn.words.items;
  value : (env : ℕ → Bool) → carried l.b env l.words.items
      ≡ cond (wire_value l.fn.b env l.guard) (part l.guarded_piece.piece.signal l.low l.place l.first (wire_values l.fn.b env l.bits) (carried l.fn.b env l.fn.words.items)) (carried l.fn.b env l.fn.words.items);
}
