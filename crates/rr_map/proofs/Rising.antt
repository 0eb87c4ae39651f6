-- Edits that lift stand in the file in their order.
use Rattle.std.proofs.Common.{◌≡◌, ◌⊎◌, inl, inr, ℕ, ◌+◌, ◌-◌, ◌<◌, ◌≤◌, true, List, [], ◌∷◌, length, ap, arith}
use Rattle.std.specs.List.{All}
use Rattle.std.proofs.lemmas.Bool.{cases_lt}
use Rattle.std.proofs.lemmas.List.Elements.{All-head, All-tail}
use Rattle.rr_directive.specs.declared.origin.Origin.{Origin}
use Rattle.rr_directive.specs.Places.{offset_at}
use Rattle.rr_edit.specs.Edits.{Edit, InOrder}
use Rattle.rr_edit.specs.Lifted.{exact_at, lifts}
use Rattle.rr_map.specs.Moves.{moved, all_moved}
use Rattle.rr_map.proofs.Spread.{order_within}
use Rattle.rr_map.proofs.Adjoining.{Stands, stands}

-- exact bytes stand in a file of so many bytes, in the order of the text
pub record Rising (origins : List Origin) (n : ℕ) : Type 0 where
  pub rise : (j k : ℕ) → j < k → exact_at origins j ≡ true → exact_at origins k ≡ true → offset_at origins j < offset_at origins k
  pub within : (k : ℕ) → exact_at origins k ≡ true → offset_at origins k < n

-- what is exact from a byte of the text on stands from a place of the file on
record Reached (origins : List Origin) (from at : ℕ) : Type 0 where
  behind : (k : ℕ) → from ≤ k → exact_at origins k ≡ true → at ≤ offset_at origins k
  anchored : (k : ℕ) → from ≤ k + 1 → exact_at origins k ≡ true → at ≤ offset_at origins k + 1

module _ (origins : List Origin) (n : ℕ) (r : Rising origins n) where
  next : (to : ℕ) → 0 < to → exact_at origins (to - 1) ≡ true → Reached origins to (offset_at origins (to - 1) + 1)
  next to s e = record {
    behind = λ j l f. let h = r.rise (to - 1) j (omega (arith, l, s)) e f in omega (arith, h);
    anchored = λ j l f. by_place j f (omega (arith, l)) (cases_lt (to - 1) j);
  }
    where
      by_place : (j : ℕ) → exact_at origins j ≡ true → to - 1 ≤ j → (to - 1 < j) ⊎ (j ≤ to - 1) → offset_at origins (to - 1) + 1 ≤ offset_at origins j + 1
      by_place j f l (inl m) = let h = r.rise (to - 1) j m e f in omega (arith, h)
      by_place j f l (inr m) = let h : offset_at origins (to - 1) ≡ offset_at origins j = ap (offset_at origins) (omega (arith, l, m)) in omega (arith, h)

  first_order : (e : Edit) (place at : ℕ) → place ≤ e.from → e.from ≤ e.to → Reached origins place at → Stands origins e → (at ≤ (moved origins e).from) × ((moved origins e).from ≤ (moved origins e).to)
  first_order e place at a b q s = (by_size (cases_lt e.from e.to), omega arith)
    where
      by_size : (e.from < e.to) ⊎ (e.to ≤ e.from) → at ≤ (moved origins e).from
      by_size (inl l) = let f = s.first l in let h = q.behind e.from a f.0 in let g = f.1 in omega (arith, h, g)
      by_size (inr l) = let f = s.none l in let t = s.some in let h = q.anchored (e.to - 1) (omega (arith, a, b, t)) s.anchor in omega (arith, h, f)

  all_order : (es : List Edit) (place at : ℕ) → InOrder place (length origins) es → All (λ e. lifts origins e ≡ true) es → Reached origins place at → at ≤ n → InOrder at n (all_moved origins es)
  unfolding InOrder
  all_order [] place at o h q l = l
  all_order (e ∷ es) place at o h q l =
      let s = stands origins e o.1.0 (order_within e.to (length origins) es o.1.1) (All-head (λ e. lifts origins e ≡ true) e es h) in
      let f = first_order e place at o.0 o.1.0 q s in
      let w = r.within (e.to - 1) s.anchor in
      (f.0, (f.1, all_order es e.to (offset_at origins (e.to - 1) + 1) o.1.1 (All-tail (λ e. lifts origins e ≡ true) e es h) (next e.to s.some s.anchor) (omega (arith, w))))

pub moved_order : (origins : List Origin) (n : ℕ) (es : List Edit) → Rising origins n → InOrder 0 (length origins) es → All (λ e. lifts origins e ≡ true) es → InOrder 0 n (all_moved origins es)
moved_order origins n es r o h = all_order origins n r es 0 0 o h (record { behind = λ k l e. omega arith; anchored = λ k l e. omega arith }) (omega arith)
