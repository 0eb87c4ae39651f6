use Rattle.std.proofs.Common.{◌≡◌, ◌∙◌, sym, ap, ◌<◌, ◌^◌, arith, subst}
use Rattle.rr_expr.specs.Scopes.{range_width}
use Rattle.rr_expr.proofs.MemoryWords.{word_below}
use Rattle.rr_starts.proofs.Named.{word_number_in, width_fits}
use Rattle.rr_starts.proofs.initials.set_word.Goals as goal

pub index_shape-requires : goal.index_shape-requires
index_shape-requires c =
    let l = word_below c.in-Memory.low c.in-Memory.words _ c.in-Some.word (sym c.word_at.ensures ∙ c.in-Some.is) in
    let n = word_number_in _ _ c.flat.inside.scopes.items c.args.scope c.index-names.result.now _ _ _ _ c.in-Some.word _ _ c.flat.invariant.signals_in c.flat.invariant.scopes_in (rw (← c.flat.view_is) at c.requires.there) c.index-names.ensures (sym c.meaning-entity.ensures ∙ c.in-Memory.is) l in
    record { fits = width_fits _ n.low n.high }

pub overflow_add-first : goal.overflow_add-first
overflow_add-first c =
    let l = word_below c.in-Memory.low c.in-Memory.words _ c.in-Some.word (sym c.word_at.ensures ∙ c.in-Some.is) in
    let n = word_number_in _ _ c.flat.inside.scopes.items c.args.scope c.index-names.result.now _ _ _ _ c.in-Some.word _ _ c.flat.invariant.signals_in c.flat.invariant.scopes_in (rw (← c.flat.view_is) at c.requires.there) c.index-names.ensures (sym c.meaning-entity.ensures ∙ c.in-Memory.is) l in
    omega (arith, n.inside, c.flat.invariant.numbers)

pub start-requires-clause-there : goal.start-requires-clause-there
start-requires-clause-there c =
    let l = word_below c.in-Memory.low c.in-Memory.words _ c.in-Some.word (sym c.word_at.ensures ∙ c.in-Some.is) in
    let n = word_number_in _ _ c.flat.inside.scopes.items c.args.scope c.index-names.result.now _ _ _ _ c.in-Some.word _ _ c.flat.invariant.signals_in c.flat.invariant.scopes_in (rw (← c.flat.view_is) at c.requires.there) c.index-names.ensures (sym c.meaning-entity.ensures ∙ c.in-Memory.is) l in
    rw (← c.flat.view_is) n.inside

pub start-requires-clause-fits : goal.start-requires-clause-fits
start-requires-clause-fits c =
    let l = word_below c.in-Memory.low c.in-Memory.words _ c.in-Some.word (sym c.word_at.ensures ∙ c.in-Some.is) in
    let n = word_number_in _ _ c.flat.inside.scopes.items c.args.scope c.index-names.result.now _ _ _ _ c.in-Some.word _ _ c.flat.invariant.signals_in c.flat.invariant.scopes_in (rw (← c.flat.view_is) at c.requires.there) c.index-names.ensures (sym c.meaning-entity.ensures ∙ c.in-Memory.is) l in
    let w : c.index_shape.result.width ≡ range_width c.in-Memory.range = ap (λ s. s.width) c.index_shape.ensures.value in
    subst (λ k. c.start_number-number.result < 2 ^ k) (w ∙ (rw (← c.flat.view_is) n.width)) c.start_number-number.ensures.fits
