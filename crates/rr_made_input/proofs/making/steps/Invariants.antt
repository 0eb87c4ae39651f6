use Rattle.rr_made_input.proofs.DrawLaws.{Stepped}
use Rattle.rr_made_input.proofs.making.steps.Given as goal

abbrev pub invariant-loop-i : goal.invariant-loop-i
invariant-loop-i l = Stepped l.initial.draws.state l.i l.draws.state l.steps.items
