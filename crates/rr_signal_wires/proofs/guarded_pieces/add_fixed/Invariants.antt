use Rattle.std.proofs.Common.{◌≡◌, ◌≤◌, ◌+◌, ℕ, Bool, List, All, drop, length}
use Rattle.rr_named_bits.specs.Pieces.{all_bits}
use Rattle.rr_cycle.specs.Exec.{Environment, write}
use Rattle.rr_signal_wires.specs.GuardedPieces.{AreGuardedPieces, put_guarded_pieces}
use Rattle.rr_signal_wires.specs.Words.{Fits}
use Rattle.rr_signal_wires.proofs.guarded_pieces.add_fixed.Given as goal

abbrev pub invariant-loop-left : goal.invariant-loop-left
invariant-loop-left l = record {
  left : l.left ≤ length l.pieces.items;
  next : l.next ≡ l.from + length (all_bits (drop l.left l.pieces.items));
  guarded_pieces : (widths : List ℕ) → All (Fits widths) l.pieces.items → AreGuardedPieces l.b widths l.fn.list.items → AreGuardedPieces l.b widths l.list.items;
  value : (env : ℕ → Bool) (vs : List Bool) (e : Environment) → put_guarded_pieces l.b env l.list.items vs e ≡ write (all_bits (drop l.left l.pieces.items)) (drop l.from vs) (put_guarded_pieces l.b env l.fn.list.items vs e);
}

abbrev pub decreases-loop-left : goal.decreases-loop-left
decreases-loop-left l = l.left
