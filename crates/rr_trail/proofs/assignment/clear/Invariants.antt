use Rattle.rr_trail.specs.Tables.{Cleared}
use Rattle.rr_trail.proofs.assignment.clear.Given as goal

abbrev pub invariant-loop-place : goal.invariant-loop-place
invariant-loop-place l = Cleared l.fn.truths.items l.truths.items l.lits l.from l.place
