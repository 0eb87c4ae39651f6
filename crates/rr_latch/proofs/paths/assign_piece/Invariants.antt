use Rattle.rr_latch.specs.Paths.{assigned}
use Rattle.rr_writers.proofs.Marking.{below}
use Rattle.rr_latch.proofs.Scanning.{Assigning}
use Rattle.rr_latch.proofs.paths.assign_piece.Given as goal

abbrev pub invariant-loop-place : goal.invariant-loop-place
invariant-loop-place l = Assigning (below l.piece l.place) (assigned l.fn.path.unassigned) (assigned l.path.unassigned) l.fn.path.log.items l.path.log.items
