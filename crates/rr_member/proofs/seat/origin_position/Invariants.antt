use Rattle.std.proofs.Common.{ℕ, ◌-◌, ◌<◌, ◌≤◌, length, slice_index_or}
use Rattle.rr_member.specs.declared.seat.Origin.{Origin}
use Rattle.rr_member.proofs.seat.origin_position.Given as goal

abbrev pub invariant-loop-low : goal.invariant-loop-low
invariant-loop-low l = record {
  order : l.low ≤ l.high;
  within : l.high ≤ length l.origins;
  below : (k : ℕ) (d : Origin) → k < l.low → (slice_index_or l.origins k d).id < l.id;
  above : (k : ℕ) (d : Origin) → l.high ≤ k → k < length l.origins → l.id < (slice_index_or l.origins k d).id;
}

abbrev pub decreases-loop-low : goal.decreases-loop-low
decreases-loop-low l = l.high - l.low
