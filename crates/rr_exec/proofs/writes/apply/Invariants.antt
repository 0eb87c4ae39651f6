use Rattle.std.proofs.Common.{◌≡◌, drop, length}
use Rattle.rr_expr.specs.Scopes.{env_of}
use Rattle.rr_cycle.specs.Exec.{applied}
use Rattle.rr_exec.specs.Work.{updates_in}
use Rattle.rr_exec.proofs.writes.apply.Given as goal

abbrev pub invariant-loop-later : goal.invariant-loop-later
invariant-loop-later l = record {
  env : applied (updates_in (drop l.later-index l.list)) (env_of l.values.items) ≡ applied (updates_in l.list) (env_of l.fn.values.items);
  count : length l.values.items ≡ length l.fn.values.items;
}
