use Rattle.std.proofs.Common.{[], ap, sym, subst, arith}
use Rattle.rr_watch.specs.Lists.{IsPropagator}
use Rattle.rr_watch.proofs.StateSteps.{State-none}
use Rattle.rr_watch.proofs.propagator.Propagator.new.Goals as goal

pub returns-clause-whole : goal.returns-clause-whole
returns-clause-whole c =
    let t = c.in_ok-new.field-0 in
    let ls = c.in_ok-new-3.field-0 in
    let v = ap (λ x. x.vars) c.in_ok-new.ensures in
    let w = State-none t ls 18446744073709551615 (ap (λ x. x.entries) c.in_ok-new.ensures) (ap (λ x. x.depth) c.in_ok-new.ensures) (omega (arith, v, c.requires)) (omega (arith, v, c.in_ok-new-3.ensures.long)) c.in_ok-new-3.ensures.empty in
    subst (λ hs. IsPropagator t hs ls c.new-4.result.items 0 0 18446744073709551615) (sym (ap (λ x. x.held) c.in_ok-new-2.ensures))
    (subst (λ ss. IsPropagator t [] ls ss 0 0 18446744073709551615) (sym c.new-4.ensures.items) w)
