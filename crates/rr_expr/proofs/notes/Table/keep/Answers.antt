use Rattle.std.proofs.Common.{Some}
use Rattle.std.proofs.lemmas.List.Elements.{All-set}
use Rattle.rr_expr.specs.Notes.{HasRight, IsRightNote}
use Rattle.rr_expr.proofs.notes.Table.keep.Goals as goal

pub returns-then-self-cheapest : goal.returns-then-self-cheapest
unfolding HasRight
returns-then-self-cheapest c s h right = All-set (IsRightNote s) c.args.self.now.kept c.least_at-cheapest.result (Some c.args.known) right h

pub returns-else-self-cheapest : goal.returns-else-self-cheapest
unfolding HasRight
returns-else-self-cheapest c s h right = h
