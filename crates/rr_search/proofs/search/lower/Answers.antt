use Rattle.std.proofs.Common.{◌∙◌, ◌-◌, Some, sym, subst, arith}
use Rattle.rr_search.specs.Answers.{task_of}
use Rattle.rr_search.specs.Replies.{ReplyIs}
use Rattle.rr_search.proofs.Answering.{fine_by, found_by, left_open, repaired}
use Rattle.rr_search.proofs.search.lower.Goals as goal

pub returns-then-k-eq0-clause-answer : goal.returns-then-k-eq0-clause-answer
returns-then-k-eq0-clause-answer g c = fine_by (task_of c.args.job.now) c.fewer.best.picks.items c.fewer.invariant.mending (sym c.cost_in-k.ensures.value ∙ c.if-k-eq0.true)

pub returns-in-Refuted-clause-answer : goal.returns-in-Refuted-clause-answer
returns-in-Refuted-clause-answer g c =
    let t = task_of c.args.job.now in
    let closed = subst (ReplyIs t (c.cost_in-k.result - 1)) c.in-Refuted.is c.in_ok-choice.ensures in
    repaired t c.requires.faulty c.fewer.best.picks.items c.fewer.invariant.mending c.cost_in-k.result (omega (arith, c.if-k-eq0.false)) c.cost_in-k.ensures.value c.in-Refuted.circuit c.in-Refuted.journal.lines closed

pub returns-in-Open-clause-answer : goal.returns-in-Open-clause-answer
returns-in-Open-clause-answer g c =
    let t = task_of c.args.job.now in
    let left = subst (ReplyIs t (c.cost_in-k.result - 1)) c.in-Open.is c.in_ok-choice.ensures in
    let found = found_by t c.fewer.best.picks.items c.fewer.invariant.mending c.cost_in-k.result (omega (arith, c.if-k-eq0.false)) c.cost_in-k.ensures.most c.cost_in-k.ensures.value in
    left_open t c.requires.faulty (c.cost_in-k.result - 1) (omega (arith, c.cost_in-k.ensures.most)) c.in-Open.circuit c.in-Open.journal.lines left (Some c.fewer.best) found
