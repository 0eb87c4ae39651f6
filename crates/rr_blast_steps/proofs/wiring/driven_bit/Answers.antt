use Rattle.rr_signal_wires.specs.Words.{IsThere}
use Rattle.std.proofs.Common.{◌≡◌, ◌∙◌, sym, ap, subst, arith, List, Option, None, get_or, length}
use Rattle.rr_syntax.specs.View.{plain}
use Rattle.rr_expr.specs.declared.types.Bit.{Bit}
use Rattle.rr_expr.specs.Scopes.{Names}
use Rattle.rr_expr.specs.Values.{nowhere}
use Rattle.rr_flat.specs.Signals as head
use Rattle.rr_flat.specs.Targets.{target_bits}
use Rattle.rr_flat.specs.View.{Design, plain_flat}
use Rattle.rr_flat.specs.Writers.{driven_by, scope_at}
use Rattle.rr_blast_steps.specs.Designs.{signal_widths}
use Rattle.rr_named_bits.specs.Pieces.{all_bits}
use Rattle.rr_blast_steps.proofs.BitLaws.{named_there, some_if, whole_at, whole_past, whole_there}
use Rattle.rr_meaning.proofs.Scoping.{IsSound, scope_is, scope_read}
use Rattle.rr_blast_steps.proofs.DesignLaws.{scope_holds}
use Rattle.rr_signal_wires.proofs.NameLaws.{few_bits, none_bits}
use Rattle.rr_meaning.proofs.Scoping.{signal_read}
use Rattle.rr_blast_steps.proofs.wiring.driven_bit.Goals as goal

pub named_bit-bit-requires : goal.named_bit-bit-requires
named_bit-bit-requires c =
    let d : Design = c.args.flat.now in
    let f : IsSound d = subst IsSound c.flat.view_is c.flat.invariant in
    let r = rw c.in-Text.is at c.requires in
    let x : c.index.result.now ≡ scope_at (plain_flat d) c.in-Text.scope = scope_read d c.in-Text.scope c.index.result.now c.flat.inside.scopes.items r.0 c.index.ensures (ap (λ (z : Design). z.scopes) c.flat.view_is) in
    let e : all_bits c.as_slice.result.now ≡ target_bits c.index.result.now nowhere (plain c.in-Text.expr.now) =
    ap all_bits c.as_slice.ensures.value ∙ none_bits c.index.result.now (plain c.in-Text.expr.now) c.no_values-none.result.values.items c.new-pieces.result.items (all_bits c.add_pieces.new.list.items) c.no_values-none.ensures c.new-pieces.ensures.items c.in_ok-add_pieces-in-Text.ensures in
    record { few = omega (arith, ap length e, few_bits c.index.result.now nowhere (plain c.in-Text.expr.now) (rw x r.1.shaped)) }

pub returns-in_ok-add_pieces-in-Text-clause-bit : goal.returns-in_ok-add_pieces-in-Text-clause-bit
unfolding driven_by
returns-in_ok-add_pieces-in-Text-clause-bit c =
    let d : Design = c.args.flat.now in
    let f : IsSound d = subst IsSound c.flat.view_is c.flat.invariant in
    let r = rw c.in-Text.is at c.requires in
    let x : c.index.result.now ≡ scope_at (plain_flat d) c.in-Text.scope = scope_read d c.in-Text.scope c.index.result.now c.flat.inside.scopes.items r.0 c.index.ensures (ap (λ (z : Design). z.scopes) c.flat.view_is) in
    let e : all_bits c.as_slice.result.now ≡ target_bits c.index.result.now nowhere (plain c.in-Text.expr.now) =
    ap all_bits c.as_slice.ensures.value ∙ none_bits c.index.result.now (plain c.in-Text.expr.now) c.no_values-none.result.values.items c.new-pieces.result.items (all_bits c.add_pieces.new.list.items) c.no_values-none.ensures c.new-pieces.ensures.items c.in_ok-add_pieces-in-Text.ensures in
    rw c.in-Text.is (c.named_bit-bit.ensures ∙ ap (λ (bs : List (Option Bit)). get_or bs c.args.place None) (e ∙ ap (λ (s : Names). target_bits s nowhere (plain c.in-Text.expr.now)) x))

pub returns-in_ok-add_pieces-in-Text-clause-there : goal.returns-in_ok-add_pieces-in-Text-clause-there
returns-in_ok-add_pieces-in-Text-clause-there c =
    let d : Design = c.args.flat.now in
    let f : IsSound d = subst IsSound c.flat.view_is c.flat.invariant in
    let r = rw c.in-Text.is at c.requires in
    let x : c.index.result.now ≡ scope_at (plain_flat d) c.in-Text.scope = scope_read d c.in-Text.scope c.index.result.now c.flat.inside.scopes.items r.0 c.index.ensures (ap (λ (z : Design). z.scopes) c.flat.view_is) in
    let e : all_bits c.as_slice.result.now ≡ target_bits c.index.result.now nowhere (plain c.in-Text.expr.now) =
    ap all_bits c.as_slice.ensures.value ∙ none_bits c.index.result.now (plain c.in-Text.expr.now) c.no_values-none.result.values.items c.new-pieces.result.items (all_bits c.add_pieces.new.list.items) c.no_values-none.ensures c.new-pieces.ensures.items c.in_ok-add_pieces-in-Text.ensures in
    some_if c.named_bit-bit.result (λ b. IsThere (signal_widths d.signals) b)
    (λ b h. named_there c.index.result.now (signal_widths d.signals) nowhere (plain c.in-Text.expr.now) c.args.place b (scope_holds d c.index.result.now f (scope_is d c.in-Text.scope c.index.result.now f r.0 x))
    (sym (ap (λ (bs : List (Option Bit)). get_or bs c.args.place None) e) ∙ sym c.named_bit-bit.ensures ∙ h))

pub returns-then-place-index-clause-bit : goal.returns-then-place-index-clause-bit
unfolding driven_by
returns-then-place-index-clause-bit c =
    let d : Design = c.args.flat.now in
    let f : IsSound d = subst IsSound c.flat.view_is c.flat.invariant in
    let r = rw c.in-Whole.is at c.requires in
    let q = ap (λ (s : head.Signal). s.width) (signal_read d.signals c.in-Whole.id c.index-in-Whole.result.now c.index-in-Whole.result.now r (c.index-in-Whole.ensures ∙ ap (λ (z : Design). get_or z.signals c.in-Whole.id c.index-in-Whole.result.now) c.flat.view_is)) in
    rw c.in-Whole.is (whole_at d c.in-Whole.id c.args.place f r (omega (arith, q, c.if-place-index.true)))

pub returns-else-place-index-clause-bit : goal.returns-else-place-index-clause-bit
unfolding driven_by
returns-else-place-index-clause-bit c =
    let d : Design = c.args.flat.now in
    let f : IsSound d = subst IsSound c.flat.view_is c.flat.invariant in
    let r = rw c.in-Whole.is at c.requires in
    let q = ap (λ (s : head.Signal). s.width) (signal_read d.signals c.in-Whole.id c.index-in-Whole.result.now c.index-in-Whole.result.now r (c.index-in-Whole.ensures ∙ ap (λ (z : Design). get_or z.signals c.in-Whole.id c.index-in-Whole.result.now) c.flat.view_is)) in
    rw c.in-Whole.is (whole_past d c.in-Whole.id c.args.place (omega (arith, q, c.if-place-index.false)))

pub returns-then-place-index-clause-there : goal.returns-then-place-index-clause-there
returns-then-place-index-clause-there c =
    let d : Design = c.args.flat.now in
    let f : IsSound d = subst IsSound c.flat.view_is c.flat.invariant in
    let r = rw c.in-Whole.is at c.requires in
    let q = ap (λ (s : head.Signal). s.width) (signal_read d.signals c.in-Whole.id c.index-in-Whole.result.now c.index-in-Whole.result.now r (c.index-in-Whole.ensures ∙ ap (λ (z : Design). get_or z.signals c.in-Whole.id c.index-in-Whole.result.now) c.flat.view_is)) in
    whole_there d c.in-Whole.id c.args.place r (omega (arith, q, c.if-place-index.true))
