use Rattle.std.proofs.Common.{List}
use Rattle.rr_trace.specs.Coming.{IsComing}
use Rattle.rr_trace.specs.Names.{Text}
use Rattle.rr_trace.specs.View.{plain_header, plain_table}
use Rattle.rr_trace.proofs.RowByRow.{Going}
use Rattle.rr_trace.proofs.table.read_rows.Given as goal

abbrev pub invariant-loop-row : goal.invariant-loop-row
invariant-loop-row l = (all : List (List Text)) → IsComing l.fn.reader all → Going (plain_header l.header) all l.row l.reader (plain_table l.table)
