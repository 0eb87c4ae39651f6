use Rattle.std.proofs.Common.{◌≡◌, ◌-◌, ◌^◌, ◌≤◌}
use Rattle.rr_arith.proofs.distance_bits.Given as goal

abbrev pub invariant-loop-bits : goal.invariant-loop-bits
invariant-loop-bits l = record { few : l.bits ≤ 7; within : l.bits ≤ l.count; reach : l.reach ≡ 2 ^ l.bits }

abbrev pub decreases-loop-bits : goal.decreases-loop-bits
decreases-loop-bits l = l.count - l.bits
