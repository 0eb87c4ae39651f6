use Rattle.rr_writers.specs.Tables.{entry}
use Rattle.rr_writers.proofs.Marking.{below}
use Rattle.rr_latch.proofs.Putting.{Put}
use Rattle.rr_latch.proofs.kept.put_piece.Given as goal

abbrev pub invariant-loop-place : goal.invariant-loop-place
invariant-loop-place l = Put l.number (below l.piece l.place) (entry l.fn.table) (entry l.table)
