use Rattle.std.proofs.Common.{◌≤◌, arith}
use Rattle.std.proofs.lemmas.List.Elements.{All-replicate}
use Rattle.rr_analysis.proofs.Waiting.{none_newer}
use Rattle.rr_analysis.proofs.workspace.Marks.clear.Goals.{then-self, else-self}
use Rattle.rr_analysis.proofs.workspace.Marks.clear.Goals as goal

pub returns-clause-none : goal.returns-clause-none
returns-clause-none c = none_newer c.if-self.self-inside.stamps.items c.if-self.self-inside.newest (elim c.if-self.branch [
  | then-self w ↦ rw (w.self-inside-is, w.fill.ensures.items (λ y h. h)) (All-replicate (λ s. s ≤ 0) _ 0 (omega arith))
  | else-self w ↦ rw w.self-inside-is c.self.invariant
])
