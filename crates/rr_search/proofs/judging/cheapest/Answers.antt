use Rattle.std.proofs.Common.{◌≡◌, ℕ, length, subst, arith}
use Rattle.rr_search.specs.Answers.{plain_choices, task_of}
use Rattle.rr_search.specs.Replies.{IsCheapest}
use Rattle.rr_search.proofs.Proposals.{none_yet}
use Rattle.rr_search.proofs.judging.cheapest.Goals as goal

pub loop-k-init : goal.loop-k-init
loop-k-init c = none_yet (task_of c.args.job.now) (plain_choices c.args.proposals.now)

pub returns : goal.returns
returns c =
    let e : c.loop-k.k ≡ length c.args.proposals.now = omega (arith, c.loop-k-test.false, c.loop-k.auto.k-end) in
    subst (λ (n : ℕ). IsCheapest (task_of c.args.job.now) (plain_choices c.args.proposals.now) n c.loop-k.best) e c.loop-k.invariant
