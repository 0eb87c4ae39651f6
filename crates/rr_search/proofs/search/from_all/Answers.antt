use Rattle.std.proofs.Common.{None, subst, arith}
use Rattle.rr_search.specs.Answers.{task_of}
use Rattle.rr_search.specs.Replies.{ReplyIs}
use Rattle.rr_search.proofs.Answering.{beyond, left_open}
use Rattle.rr_search.proofs.search.from_all.Goals as goal

pub returns-in-Refuted : goal.returns-in-Refuted
returns-in-Refuted g c =
    let t = task_of c.args.job.now in
    let closed = subst (ReplyIs t c.site_count-bound.result) c.in-Refuted.is c.in_ok-choice.ensures in
    beyond t c.requires.faulty c.site_count-bound.result c.site_count-bound.ensures.value c.in-Refuted.circuit c.in-Refuted.journal.lines closed

pub returns-in-Open : goal.returns-in-Open
returns-in-Open g c =
    let t = task_of c.args.job.now in
    let left = subst (ReplyIs t c.site_count-bound.result) c.in-Open.is c.in_ok-choice.ensures in
    left_open t c.requires.faulty c.site_count-bound.result (omega (arith, c.site_count-bound.ensures.value)) c.in-Open.circuit c.in-Open.journal.lines left None (λ j of. c.site_count-bound.ensures.value)
