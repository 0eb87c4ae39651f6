use Rattle.std.proofs.Common.{None}
use Rattle.std.proofs.lemmas.List.Elements.{All-replicate}
use Rattle.rr_expr.specs.Notes.{HasRight, IsRightNote}
use Rattle.rr_expr.proofs.notes.Table.new.Goals as goal

pub returns : goal.returns
unfolding HasRight
returns c s = All-replicate (IsRightNote s) 16 None tt
