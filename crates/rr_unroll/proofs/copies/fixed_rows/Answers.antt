use Rattle.std.proofs.Common.{◌≡◌, ◌<◌, ◌≤◌, ◌∙◌, [], ℕ, List, length, get_or, map, take, ap, subst, sym, arith}
use Rattle.std.specs.List.{sum}
use Rattle.std.proofs.lemmas.List.{length-map, take_more, take_all}
use Rattle.rr_transition.specs.Transitions.{Transition, words}
use Rattle.rr_transition.proofs.WordLaws.{length_words}
use Rattle.rr_unroll.specs.Fixed.{IsFixed, AreFixed}
use Rattle.rr_unroll.proofs.FixedLaws.{fixed_push}
use Rattle.rr_unroll.proofs.copies.fixed_rows.Goals as goal

pub fixed-requires : goal.fixed-requires
fixed-requires c =
    let view = c.transition.view_is in
    ap length (c.as_slice-in-loop-r.ensures.value ∙ c.in_ok-row.ensures) ∙ length_words c.as_slice.result.now c.numbers_at-numbers.result.now ∙ ap sum c.as_slice.ensures.value ∙ sym c.transition.invariant.input_bits ∙ ap (λ (t : Transition). t.input_bits) view

pub loop-r-preserved : goal.loop-r-preserved
loop-r-preserved c =
    let t = c.args.transition.now in
    let rows : List (List ℕ) = map (λ v. v.items) c.args.rows.now in
    let l : c.loop-r.r < length rows = let m = length-map c.args.rows.now (λ v. v.items) in omega arith in
    let row : c.as_slice-in-loop-r.result.now ≡ words t.input_widths (get_or rows c.loop-r.r []) =
    c.as_slice-in-loop-r.ensures.value ∙ c.in_ok-row.ensures ∙ ap (λ ws. words ws c.numbers_at-numbers.result.now) (c.as_slice.ensures.value ∙ ap (λ (x : Transition). x.input_widths) c.transition.view_is) ∙ ap (words t.input_widths) c.numbers_at-numbers.ensures in
    let here : IsFixed t (words t.input_widths (get_or rows c.loop-r.r [])) c.in_ok-circuit.circuit = subst (λ bits. IsFixed t bits c.in_ok-circuit.circuit) row c.in_ok-circuit.ensures in
    rw (c.in_ok-push.ensures.items, take_more rows c.loop-r.r [] l) (fixed_push t (take c.loop-r.r rows) c.loop-r.circuits.items (get_or rows c.loop-r.r []) c.in_ok-circuit.circuit c.loop-r.invariant here)

pub returns : goal.returns
returns c =
    let rows : List (List ℕ) = map (λ v. v.items) c.args.rows.now in
    let l : length rows ≤ c.loop-r.r = let m = length-map c.args.rows.now (λ v. v.items) in omega arith in
    subst (λ xs. AreFixed c.args.transition.now xs c.loop-r.circuits.items) (take_all c.loop-r.r rows l) c.loop-r.invariant
