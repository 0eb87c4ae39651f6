use Rattle.rr_expr.specs.Notes.{Noted}
use Rattle.rr_expr.proofs.notes.Notes.new.Goals as goal

pub returns : goal.returns
unfolding Noted
returns c s = tt
