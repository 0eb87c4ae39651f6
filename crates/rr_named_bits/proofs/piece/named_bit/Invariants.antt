use Rattle.std.proofs.Common.{◌≡◌, ◌≤◌, drop, length}
use Rattle.rr_named_bits.specs.Pieces.{all_bits}
use Rattle.rr_named_bits.proofs.piece.named_bit.Given as goal

abbrev pub invariant-loop-left : goal.invariant-loop-left
invariant-loop-left l = record {
  from : l.from ≡ length (all_bits (drop l.left l.pieces));
  below : l.from ≤ l.place;
  left : l.left ≤ length l.pieces;
}

abbrev pub decreases-loop-left : goal.decreases-loop-left
decreases-loop-left l = l.left
