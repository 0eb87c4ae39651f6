use Rattle.std.proofs.Common.{◌≡◌, ◌≤◌, ◌-◌, length, drop}
use Rattle.rr_lex.specs.Tokens.{more}
use Rattle.rr_lex.specs.Reading.{closing}
use Rattle.rr_lex.proofs.bytes.closing.Given as goal

abbrev pub decreases-loop-at : goal.decreases-loop-at
decreases-loop-at l = length l.bytes - l.at

abbrev pub invariant-loop-at : goal.invariant-loop-at
invariant-loop-at l = record {
  after : l.from ≤ l.at;
  within : l.at ≤ length l.bytes;
  same : more l.from (closing l.first l.second (drop l.from l.bytes)) ≡ more l.at (closing l.first l.second (drop l.at l.bytes));
}
