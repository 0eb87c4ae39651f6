use Rattle.rr_choice.specs.Choices.{IsChoice}
use Rattle.rr_plainer.proofs.asking.other.Given as goal

abbrev pub invariant-loop-number : goal.invariant-loop-number
invariant-loop-number l = IsChoice l.list l.best.picks.items
