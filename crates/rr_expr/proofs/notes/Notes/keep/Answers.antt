use Rattle.rr_expr.specs.Notes.{Noted}
use Rattle.rr_expr.proofs.notes.Notes.keep.Goals as goal

pub returns-in-Some : goal.returns-in-Some
unfolding Noted
returns-in-Some c s h right = c.keep.ensures s (rw c.in-Some.is at h) right

pub returns-in-None : goal.returns-in-None
unfolding Noted
returns-in-None c s h right = c.keep-in-None.ensures s (c.new-table.ensures s) right
