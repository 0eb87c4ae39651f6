use Rattle.std.proofs.Common.{◌≡◌, ◌-◌, ◌++◌, pos, ◌+ℤ◌}
use Rattle.rr_named_bits.specs.Pieces.{bits_in, bits_of}
use Rattle.rr_order.proofs.wiring.add_bits_of.Given as goal

abbrev pub invariant-loop-place : goal.invariant-loop-place
invariant-loop-place l = l.bits.items ++ bits_in l.piece (l.piece.from +ℤ pos l.place) (l.piece.count - l.place) ≡ l.fn.bits.items ++ bits_of l.piece
