use Rattle.std.proofs.Common.{◌≡◌, ◌≤◌, ◌-◌, ◌+◌, length, drop}
use Rattle.rr_directive.specs.Pieces.{text_len}
use Rattle.rr_directive.proofs.piece.text_end.Given as goal

abbrev pub decreases-loop-at : goal.decreases-loop-at
decreases-loop-at l = length l.bytes - l.at

abbrev pub invariant-loop-at : goal.invariant-loop-at
invariant-loop-at l = record {
  within : l.at ≤ length l.bytes;
  same : l.from + text_len 0 (drop l.from l.bytes) ≡ l.at + text_len 0 (drop l.at l.bytes);
}
