use Rattle.std.proofs.Common.{◌≡◌, ◌*◌, ◌%◌, ◌^◌}
use Rattle.rr_bits.proofs.Bits.power.Given as goal

abbrev pub invariant-loop-left : goal.invariant-loop-left
invariant-loop-left l = (l.power * l.base ^ l.left) % 2 ^ 128 ≡ (l.self-inside.value ^ l.exponent) % 2 ^ 128

abbrev pub decreases-loop-left : goal.decreases-loop-left
decreases-loop-left l = l.left
