use Rattle.std.proofs.Common.{IfSome}
use Rattle.rr_choice.specs.Choices.{IsChoice}
use Rattle.rr_plainer.proofs.asking.plainest.Given as goal

abbrev pub invariant-loop-ruled : goal.invariant-loop-ruled
invariant-loop-ruled l = IfSome l.plain (λ c. IsChoice l.list c.picks.items)
