use Rattle.std.proofs.Common.{◌≡◌, ◌≤◌}
use Rattle.rr_check.proofs.Checks.{Checked}
use Rattle.rr_check.proofs.part.check_part.Given as goal

abbrev pub invariant-loop-index : goal.invariant-loop-index
invariant-loop-index l = record {
  room : l.work ≡ l.fn.work;
  low : l.fn.part.start ≤ l.index;
  checked : Checked l.formula.clauses l.journal.lines l.fn.part.start l.index l.has_empty;
}
