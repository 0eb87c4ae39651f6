use Rattle.rr_search.specs.Answers.{plain_choices, task_of}
use Rattle.rr_search.specs.Replies.{IsCheapest}
use Rattle.rr_search.proofs.judging.cheapest.Given as goal

abbrev pub invariant-loop-k : goal.invariant-loop-k
invariant-loop-k l = IsCheapest (task_of l.job) (plain_choices l.proposals) l.k l.best
