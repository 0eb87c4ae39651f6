use Rattle.std.proofs.Common.{rules, slice_index_or, ◌≡◌, ◌<◌, ◌≤◌, ◌*◌, ◌+◌, ◌/◌, ◌%◌, ℕ, List, min, length, map, take, drop, arith, ap, sym, subst, ◌∙◌, zero-add, IfOk}
use Rattle.std.proofs.lemmas.Grind.{div_ceil_times}
use Rattle.std.proofs.lemmas.List.{get_or-map, length-map, take-map, drop-map}
use Rattle.rr_unroll.specs.Fixed.{AreFixed, made}
use Rattle.rr_unroll.proofs.FixedLaws.{in_parts}
use Rattle.rr_unroll.proofs.copies.fixed_copies.Goals as goal

pub returns : goal.returns
returns g c =
    let t = c.args.transition.now in
    let numbers = c.args.rows.now in
    let rows : List (List ℕ) = map (λ v. v.items) numbers in
    let all = c.in_ok-all.all.items in
    let parts = c.in_ok-parts.parts.items in
    let is : map made parts ≡ all = c.in_ok-parts.ensures in
    let same_len : length parts ≡ length all = sym (length-map parts made) ∙ ap length is in
    let count : length rows ≡ length numbers = length-map numbers (λ v. v.items) in
    let size : ℕ = c.max-size.result in
    let some_size : 0 < size = search rules in
    let covers = (div_ceil_times (length numbers) size some_size).0 in
    let len : length all ≡ length numbers / size + min 1 (length numbers % size) = search rules in
    let reach : length rows ≤ (0 + length parts) * size = rw (zero-add, same_len, len, count) covers in
    let none : 0 * size ≡ 0 = omega arith in
    let are : AreFixed t (drop (0 * size) rows) c.in_ok-circuits.circuits.items = rw c.in_ok-circuits.ensures (in_parts t size 0 rows parts reach (λ n d lt.
    let in_all : n < length all = rw (← same_len) lt in
    let k = (c.in_ok-all.ensures.each n (made d) in_all).1 in
    let one : IfOk (slice_index_or all n (made d)) (λ r. AreFixed t (map (λ v. v.items) k.argument.now) r.items) = search rules in
    let at : slice_index_or all n (made d) ≡ made (slice_index_or parts n d) = ap (λ xs. slice_index_or xs n (made d)) (sym is) ∙ get_or-map made parts n d (made d) lt in
    let here : AreFixed t (map (λ v. v.items) k.argument.now) (slice_index_or parts n d).items = subst (λ r. IfOk r (λ x. AreFixed t (map (λ v. v.items) k.argument.now) x.items)) at one in
    let chunk_is : k.argument.now ≡ take size (drop (n * size) numbers) = search rules in
    let rows_are : map (λ v. v.items) k.argument.now ≡ take size (drop ((0 + n) * size) rows) =
    (let place : n * size ≡ (0 + n) * size = omega arith in
    ap (map (λ v. v.items)) chunk_is ∙ sym (take-map (λ v. v.items) size (drop (n * size) numbers)) ∙ ap (take size) (sym (drop-map (λ v. v.items) (n * size) numbers)) ∙ ap (λ m. take size (drop m rows)) place) in
    subst (λ xs. AreFixed t xs (slice_index_or parts n d).items) rows_are here)) in
    rw none at are
