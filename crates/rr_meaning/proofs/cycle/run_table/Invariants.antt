use Rattle.std.proofs.Common.{◌≡◌, map, take, length, []}
use Rattle.rr_expr.specs.Scopes.{env_of}
use Rattle.rr_flat.specs.View.{plain_flat}
use Rattle.rr_cycle.specs.Cycles.{Runs, beginning}
use Rattle.rr_meaning.specs.Work.{row_items}
use Rattle.rr_meaning.proofs.cycle.run_table.Given as goal

abbrev pub invariant-loop-row : goal.invariant-loop-row
invariant-loop-row l = record {
  runs : Runs (plain_flat l.flat) l.order.clock (beginning (plain_flat l.flat)) (map row_items (take l.row-index l.inputs)) (map row_items l.table.items) (env_of l.machine.env.values.items);
  count : length l.machine.env.values.items ≡ length l.flat.signals;
  none : l.machine.none.values.items ≡ [];
}
