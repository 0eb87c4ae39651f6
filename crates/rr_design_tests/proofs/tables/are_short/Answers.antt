use Rattle.std.proofs.Common.{◌≡◌, sym, ap, subst, refl, ℕ, ◌+◌, ◌<◌, ◌≤◌, ◌^◌, ◌⊎◌, inl, inr, [], List, length, map, get_or, arith, Vec, Global}
use Rattle.std.proofs.lemmas.Bool.{cases_lt}
use Rattle.std.proofs.lemmas.List.{get_or-map, get_or_past, length-map}
use Rattle.rr_trace.specs.declared.cell.Cell.{Cell}
use Rattle.rr_design_tests.proofs.tables.are_short.Goals as goal

abbrev Rows : Type 0
Rows = List (Vec Cell Global)

abbrev IsShort : Rows → ℕ → Type 0
IsShort rows r = length (get_or (map (λ v. v.items) rows) r []) < 2 ^ 32

short_more : (rows : Rows) (i : ℕ) (x : Vec Cell Global) → i < length rows → x ≡ get_or rows i x → length x.items ≤ 1000 → ((r : ℕ) → r < i → IsShort rows r) → (r : ℕ) → r < i + 1 → IsShort rows r
short_more rows i x l is few all r lt = go (cases_lt r i)
  where
    here : IsShort rows i
    here = omega (arith, few, ap length (get_or-map (λ v. v.items) rows i x [] l), ap (λ v. length v.items) is)

    go : (r < i) ⊎ (i ≤ r) → IsShort rows r
    go (inl p) = all r p
    go (inr p) = let e : i ≡ r = omega (arith, p, lt) in subst (IsShort rows) e here

short_done : (rows : Rows) (i : ℕ) → length rows ≤ i → ((r : ℕ) → r < i → IsShort rows r) → (r : ℕ) → IsShort rows r
short_done rows i l all r = go (cases_lt r i)
  where
    go : (r < i) ⊎ (i ≤ r) → IsShort rows r
    go (inl p) = all r p
    go (inr p) = omega (arith, ap length (get_or_past (map (λ v. v.items) rows) r [] (omega (arith, l, p, length-map rows (λ v. v.items)))))

pub loop-row-init : goal.loop-row-init
loop-row-init c = λ r l. absurd (omega (arith, l))

pub loop-row-preserved : goal.loop-row-preserved
loop-row-preserved c = short_more c.args.rows.now c.loop-row.row-index c.row-item.result c.loop-row-test.true c.row-item.is (omega (arith, c.if-len-gt1000.false, c.len.ensures)) c.loop-row.invariant

pub returns : goal.returns
returns c = λ h. short_done c.args.rows.now c.loop-row.row-index c.loop-row-test.false c.loop-row.invariant
