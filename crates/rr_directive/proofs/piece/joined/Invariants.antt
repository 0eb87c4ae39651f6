use Rattle.std.proofs.Common.{◌≡◌, ◌≤◌, ◌-◌, ◌++◌, length, drop}
use Rattle.rr_directive.specs.Pieces.{joined}
use Rattle.rr_directive.proofs.piece.joined.Given as goal

abbrev pub decreases-loop-at : goal.decreases-loop-at
decreases-loop-at l = length l.text - l.at

abbrev pub invariant-loop-at : goal.invariant-loop-at
invariant-loop-at l = record {
  within : l.at ≤ length l.text;
  same : joined 0 l.text ≡ l.out.items ++ joined 0 (drop l.at l.text);
}
