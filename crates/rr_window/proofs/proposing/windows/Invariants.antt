use Rattle.std.proofs.Common.{All}
use Rattle.rr_choice.specs.Choices.{IsChoice}
use Rattle.rr_window.proofs.proposing.windows.Given as goal

abbrev pub invariant-loop-reach : goal.invariant-loop-reach
invariant-loop-reach g l = All (λ c. IsChoice l.list c.picks.items) l.found.items
