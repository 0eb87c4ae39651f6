use Rattle.std.proofs.Common.{◌≡◌, ◌+◌, ◌≤◌, length}
use Rattle.std.specs.Prelude.{All}
use Rattle.rr_check.specs.Parts.{Covers, IsPartOf}
use Rattle.rr_check.proofs.part.parts_of.Given as goal

abbrev pub invariant-loop : goal.invariant-loop
invariant-loop l = record {
  count : l.count ≡ length l.lines;
  low : l.start ≤ l.count;
  made : length l.parts.items + 1 ≤ l.counter;
  parts : All (IsPartOf l.lines) l.parts.items;
  covers : Covers 0 l.start l.parts.items;
}
