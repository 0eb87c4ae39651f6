use Rattle.rr_trace.specs.Misses.{AgreeRows}
use Rattle.rr_trace.specs.View.{plain_table, plain_values}
use Rattle.rr_trace.proofs.table.Table.first_miss.Given as goal

abbrev pub invariant-loop-row : goal.invariant-loop-row
invariant-loop-row l = AgreeRows (plain_table l.self).expected (plain_values l.outputs) l.row
