use Rattle.std.proofs.Common.{◌≡◌, ◌≤◌, drop}
use Rattle.rr_syntax.specs.View.{plain_list}
use Rattle.rr_cycle.specs.Exec.{joined_all}
use Rattle.rr_exec.proofs.cases.joined_all.Given as goal

abbrev pub invariant-loop-label : goal.invariant-loop-label
invariant-loop-label l = record {
  shape : joined_all l.scope l.all (plain_list (drop l.label-index l.labels)) ≡ joined_all l.scope l.fn.first (plain_list l.labels);
  low : l.fn.first.width ≤ l.all.width;
  high : l.all.width ≤ 128;
}
