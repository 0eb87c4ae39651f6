use Rattle.std.proofs.Common.{arith}
use Rattle.rr_syntax.specs.View.{plain_list}
use Rattle.rr_syntax.proofs.Lengths.{more_len, part_len, more_sum, parts_len}
use Rattle.rr_syntax.proofs.Sums.{sum_within, sum_next, sum_full}
use Rattle.rr_syntax.proofs.Sums.{sum_within_at}
use Rattle.std.proofs.Common.{◌≡◌, ℕ, ◌+◌, ◌-◌, min, ◌<◌, ◌≤◌, List, [], ◌∷◌, length, take}
use Rattle.rr_syntax.specs.declared.tree.Expr.{Expr}
use Rattle.rr_blast_sites.proofs.extents.+extents.Goals as goal

-- there is one part more, which has a comma
some_more : (es : List Expr) (i : ℕ) → i < length es → more_len (take i es) + 1 ≤ more_len es
some_more [] i l = absurd (omega arith)
some_more (e ∷ es) i l = let n = sum_within_at more_len part_len more_sum (e ∷ es) i l e in omega (arith, n)

-- all parts, the first without a comma
all_parts : (es : List Expr) (i rest count : ℕ) → length es ≤ i → i ≤ length es → more_len es + rest ≡ count + min i 1 → (more_len es - 1) + rest ≡ count
all_parts [] i rest count l m e = let n = more_sum.none in omega (arith, n)
all_parts (x ∷ es) i rest count l m e = let n = some_more (x ∷ es) 0 (omega arith) in omega (arith, n)

pub left_after_parts-loop-place-init : goal.left_after_parts-loop-place-init
left_after_parts-loop-place-init t c = let n = more_sum.none in omega (arith, n)

pub left_after_parts-loop-place-preserved : goal.left_after_parts-loop-place-preserved
left_after_parts-loop-place-preserved t c = let n = sum_next more_len part_len more_sum c.args.parts.now c.loop-place.place c.index-parts-place.result c.loop-place-test.true c.index-parts-place.is in omega (arith, n, c.loop-place.invariant, c.in_ok-after.ensures.some, c.in_ok-rest.ensures.some)

pub left_after_parts-returns-in_err-after-clause-none : goal.left_after_parts-returns-in_err-after-clause-none
left_after_parts-returns-in_err-after-clause-none t c = rw c.from_residual.ensures (let n = some_more c.args.parts.now c.loop-place.place c.loop-place-test.true in omega (arith, n, c.loop-place.invariant, c.in_err-after.ensures.none, parts_len (plain_list c.args.parts.now)))

pub left_after_parts-returns-in_err-rest-clause-none : goal.left_after_parts-returns-in_err-rest-clause-none
left_after_parts-returns-in_err-rest-clause-none t c = rw c.from_residual-in_err-rest.ensures (let n = sum_within more_len part_len more_sum c.args.parts.now c.loop-place.place c.index-parts-place.result c.loop-place-test.true c.index-parts-place.is in omega (arith, n, c.loop-place.invariant, c.in_ok-after.ensures.some, c.in_err-rest.ensures.none, parts_len (plain_list c.args.parts.now)))

pub left_after_parts-returns-clause-some : goal.left_after_parts-returns-clause-some
left_after_parts-returns-clause-some t c =
    let f = sum_full more_len c.args.parts.now c.loop-place.place c.loop-place-test.false in
    let a = all_parts c.args.parts.now c.loop-place.place c.loop-place.rest c.args.count c.loop-place-test.false c.loop-place.auto.place-end (omega (arith, f, c.loop-place.invariant)) in
    omega (arith, a, parts_len (plain_list c.args.parts.now))
