use Rattle.std.proofs.Common.{◌≡◌, map, take}
use Rattle.rr_trace.specs.Rows.{cell_in}
use Rattle.rr_trace.proofs.rows.output_cells.Given as goal

abbrev pub invariant-loop-place : goal.invariant-loop-place
invariant-loop-place l = l.expected.items ≡ map (cell_in l.cells) (take l.place-index l.places)
