use Rattle.rr_expr.specs.Notes.{Noted}
use Rattle.rr_expr.proofs.notes.Notes.find.Goals as goal

pub returns-in-Some : goal.returns-in-Some
unfolding Noted
returns-in-Some c s h = c.find.ensures s (rw c.in-Some.is at h)
