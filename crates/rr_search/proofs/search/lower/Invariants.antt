use Rattle.std.proofs.Common.{◌≤◌}
use Rattle.rr_choice.specs.Choices.{cost}
use Rattle.rr_search.specs.Answers.{task_of}
use Rattle.rr_search.specs.Replies.{IsMending}
use Rattle.rr_search.proofs.search.lower.Given as goal

abbrev pub invariant-fewer : goal.invariant-fewer
invariant-fewer g l = record {
  mending : IsMending (task_of l.job) l.best.picks.items;
  cheaper : cost l.best.picks.items ≤ cost l.fn.choice.picks.items;
}

abbrev pub decreases-fewer : goal.decreases-fewer
decreases-fewer g l = cost l.best.picks.items
