use Rattle.std.proofs.Common.{◌≡◌, ℕ, Bool, cond, drop}
use Rattle.rr_circuit.specs.Values.{Extends, wire_value, wire_values}
use Rattle.rr_signal_wires.specs.GuardedPieces.{put_guarded_pieces}
use Rattle.rr_signal_wires.specs.Words.{AreWords, carried, widths_of}
use Rattle.rr_signal_wires.proofs.guarded_pieces.put_all.Given as goal

abbrev pub invariant-loop-guarded_piece : goal.invariant-loop-guarded_piece
invariant-loop-guarded_piece l = record {
  extends : Extends l.fn.b l.b;
  words : AreWords l.b l.words.items;
  widths : widths_of l.words.items ≡ widths_of l.fn.words.items;
  value : (env : ℕ → Bool) → cond (wire_value l.fn.b env l.guard) (put_guarded_pieces l.fn.b env (drop l.guarded_piece-index l.guarded_pieces) (wire_values l.fn.b env l.bits) (carried l.b env l.words.items)) (carried l.b env l.words.items)
      ≡ cond (wire_value l.fn.b env l.guard) (put_guarded_pieces l.fn.b env l.guarded_pieces (wire_values l.fn.b env l.bits) (carried l.fn.b env l.fn.words.items)) (carried l.fn.b env l.fn.words.items);
}
