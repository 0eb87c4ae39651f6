use Rattle.std.proofs.Common.{sym, subst}
use Rattle.std.specs.Prelude.{IfSome}
use Rattle.rr_watch.specs.Lists.{IsAhead, IsPropagator}
use Rattle.rr_watch.specs.declared.propagator.Propagator.{Propagator}
use Rattle.rr_watch.proofs.AheadLaws.{skipped}
use Rattle.rr_watch.proofs.propagator.Propagator.skip.Goals as goal

pub returns-clause-whole : goal.returns-clause-whole
returns-clause-whole c =
    let o = c.args.self.now in
    let n = c.enforce.new.self in
    let e = c.enforce.ensures in
    subst (λ (x : Propagator). IsPropagator n.trail x.hand.held x.lists x.short.items x.settled c.in-Some.head x.late) (sym e.state)
    (skipped o n.trail c.in-Some-asserted.lit c.in-Some.head (subst (λ x. IfSome x (IsAhead o)) c.in-Some.is c.requires.ahead) c.in-Some-asserted.ensures
    (subst (λ (x : Propagator). IsPropagator n.trail x.hand.held x.lists x.short.items x.settled x.head x.late) e.state e.whole)
    e.advances.grown e.advances.depth c.in_default-enforce.ensures.forced)
