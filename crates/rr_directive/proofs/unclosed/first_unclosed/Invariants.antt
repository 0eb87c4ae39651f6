use Rattle.std.proofs.Common.{◌≡◌, ◌-◌, ◌≤◌, drop, length}
use Rattle.rr_directive.specs.Pieces.{units, units_of}
use Rattle.rr_directive.specs.Expand.{first_unclosed}
use Rattle.rr_directive.proofs.Nesting.{first_of}
use Rattle.rr_directive.proofs.unclosed.first_unclosed.Given as goal

abbrev pub decreases-loop-at : goal.decreases-loop-at
decreases-loop-at l = length l.bytes - l.at

abbrev pub invariant-loop-at : goal.invariant-loop-at
invariant-loop-at l = record {
  within : l.at ≤ length l.bytes;
  same : first_of l.openings.items (units l.at 0 (drop l.at l.bytes)) ≡ first_unclosed (units_of l.bytes);
}
