use Rattle.std.proofs.Common.{◌-◌, ◌≤◌, length}
use Rattle.rr_directive.proofs.Files.{Comes}
use Rattle.rr_directive.proofs.expansion.read_all.Given as goal

abbrev pub decreases-loop-at : goal.decreases-loop-at
decreases-loop-at l = length l.bytes - l.at

abbrev pub invariant-loop-at : goal.invariant-loop-at
invariant-loop-at l = record {
  within : l.at ≤ length l.bytes;
  comes : Comes l.bytes l.at l.reader;
}
