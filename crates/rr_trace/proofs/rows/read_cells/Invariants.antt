use Rattle.csv.specs.Records.{fields_of}
use Rattle.rr_trace.proofs.CellByCell.{Taken}
use Rattle.rr_trace.proofs.rows.read_cells.Given as goal

abbrev pub invariant-loop-at : goal.invariant-loop-at
invariant-loop-at l = Taken l.row l.widths (fields_of l.fields) l.at l.cells.items
