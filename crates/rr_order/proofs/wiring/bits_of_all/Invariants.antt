use Rattle.std.proofs.Common.{◌≡◌, ◌-◌, drop, length}
use Rattle.rr_named_bits.specs.Pieces.{all_bits}
use Rattle.rr_order.proofs.wiring.bits_of_all.Given as goal

abbrev pub invariant-loop-after : goal.invariant-loop-after
invariant-loop-after l = l.bits.items ≡ all_bits (drop (length l.pieces - l.after) l.pieces)
