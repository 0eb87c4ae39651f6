use Rattle.rr_writers.specs.Tables.{entry}
use Rattle.rr_writers.proofs.Marking.{PlacesMarked}
use Rattle.rr_writers.proofs.marks.mark_piece.Given as goal

abbrev pub invariant-loop-place : goal.invariant-loop-place
invariant-loop-place l = PlacesMarked l.again l.number l.piece l.place (entry l.fn.table) (entry l.table)
