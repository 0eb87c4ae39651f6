use Rattle.std.proofs.Common.{ap}
use Rattle.rr_declarations.specs.View.{Opening}
use Rattle.rr_unfold.specs.View.{plain_counts}
use Rattle.rr_flatten.proofs.Grown.{keeps_opened}
use Rattle.rr_flatten.proofs.Walks.{opened_is}
use Rattle.rr_flatten.proofs.walk.open.Goals as goal

pub returns-clause-value : goal.returns-clause-value
returns-clause-value c =
    let h : Opening = record { instance = c.head.inside.instance; base = c.head.inside.base; bits = c.head.inside.bits; signals = c.head.inside.signals.items; scope = c.head.inside.scope } in
    rw (c.in_ok-open.ensures, c.as_slice.ensures.value, c.in_ok-push.ensures.items, ← c.head.view_is)
    (opened_is c.args.walked.now.flat h c.args.walked.now.bits c.args.owner c.args.walked.now.limit (plain_counts c.args.walked.now.counts) c.args.walked.now.loops.items c.args.names)

pub returns-clause-kept : goal.returns-clause-kept
returns-clause-kept c = keeps_opened _ _ _ _ c.requires.loops (ap (λ d. d.scopes) c.in_ok-open.ensures) c.in_ok-push.ensures.items c.head.invariant.few
