use Rattle.std.proofs.Common.{◌≡◌, ◌∙◌, sym, ap, ◌<◌, ◌≤◌, ◌^◌, length, arith, subst}
use Rattle.std.proofs.lemmas.List.Elements.{All-get_or}
use Rattle.rr_expr.specs.Scopes.{meant, range_width}
use Rattle.rr_flat.specs.Sound.{IsScope, names_at}
use Rattle.rr_flat.specs.Signals.{signal_at}
use Rattle.rr_flat.specs.View.{plain_signal}
use Rattle.rr_starts.proofs.Named.{IsNumber, number_in, width_fits}
use Rattle.rr_starts.proofs.initials.set_named.Goals as goal

pub entity_shape-requires : goal.entity_shape-requires
entity_shape-requires c =
    let n = number_in _ _ c.flat.inside.scopes.items c.args.scope c.index-names.result.now _ _ _ _ c.flat.invariant.signals_in c.flat.invariant.scopes_in (rw (← c.flat.view_is) at c.requires.there) c.index-names.ensures (sym c.meaning-entity.ensures ∙ c.in-Signal.is) in
    record { fits = width_fits _ n.low n.high }

pub start_number-number-requires-clause-high : goal.start_number-number-requires-clause-high
start_number-number-requires-clause-high c =
    let n = number_in _ _ c.flat.inside.scopes.items c.args.scope c.index-names.result.now _ _ _ _ c.flat.invariant.signals_in c.flat.invariant.scopes_in (rw (← c.flat.view_is) at c.requires.there) c.index-names.ensures (sym c.meaning-entity.ensures ∙ c.in-Signal.is) in
    rw c.entity_shape.ensures.value n.high

pub start-requires-clause-there : goal.start-requires-clause-there
start-requires-clause-there c =
    let n = number_in _ _ c.flat.inside.scopes.items c.args.scope c.index-names.result.now _ _ _ _ c.flat.invariant.signals_in c.flat.invariant.scopes_in (rw (← c.flat.view_is) at c.requires.there) c.index-names.ensures (sym c.meaning-entity.ensures ∙ c.in-Signal.is) in
    rw (← c.flat.view_is) n.inside

pub start-requires-clause-fits : goal.start-requires-clause-fits
start-requires-clause-fits c =
    let n = number_in _ _ c.flat.inside.scopes.items c.args.scope c.index-names.result.now _ _ _ _ c.flat.invariant.signals_in c.flat.invariant.scopes_in (rw (← c.flat.view_is) at c.requires.there) c.index-names.ensures (sym c.meaning-entity.ensures ∙ c.in-Signal.is) in
    let w : c.entity_shape.result.width ≡ range_width c.in-Signal.range = ap (λ s. s.width) c.entity_shape.ensures.value in
    subst (λ k. c.start_number-number.result < 2 ^ k) (w ∙ (rw (← c.flat.view_is) n.width)) c.start_number-number.ensures.fits
