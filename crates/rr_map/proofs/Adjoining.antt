-- What an edit that lifts replaces stands side by side in the file.
use Rattle.std.proofs.Common.{◌≡◌, ◌⊎◌, inl, inr, ℕ, zero, suc, ◌+◌, ◌-◌, ◌<◌, ◌≤◌, ◌==◌, ◌&&◌, ◌||◌, nat_lt, nat_le, Bool, true, false, List, [], ◌∷◌, take, drop, length, get_or, refl, sym, ◌∙◌, ap, ap₂, subst, arith}
use Rattle.std.specs.List.{list_any}
use Rattle.std.proofs.lemmas.Bool.{and_parts, eqb-true, ltb-true, cases_lt, cases_order, and_from, and_left, eq-eqb, ne_eqb, lt-ltb, le-ltb, le-leb, lt-leb}
use Rattle.std.proofs.lemmas.List.{length-take-le, length-drop, get_or-take, get_or-drop}
use Rattle.rr_directive.specs.declared.origin.Origin.{Origin}
use Rattle.rr_directive.specs.Places.{no_origin, offset_at}
use Rattle.rr_edit.specs.Edits.{Edit}
use Rattle.rr_edit.specs.Lifted.{exact_at, is_next, adjoin, replaced, lifts}
use Rattle.rr_map.specs.Moves.{moved}

-- exact bytes from a place of the file on, one behind the other
unfoldable pub Run : ℕ → List Origin → Type 0
Run s [] = Unit {0}
Run s (o ∷ os) = (o.offset ≡ s) × ((o.exact ≡ true) × Run (s + 1) os)

run_from : (s : ℕ) (o : Origin) (os : List Origin) → o.offset ≡ s → adjoin (o ∷ os) ≡ true → Run s (o ∷ os)
unfolding Run adjoin
run_from s o [] e h = (e, ((and_parts o.exact (adjoin []) h).0, tt))
run_from s o (p ∷ os) e h =
    let x = and_parts o.exact (is_next o (p ∷ os) && adjoin (p ∷ os)) h in
    let y = and_parts (is_next o (p ∷ os)) (adjoin (p ∷ os)) x.1 in
    let n = eqb-true p.offset (o.offset + 1) y.0 in
    (e, (x.0, run_from (s + 1) p os (omega (arith, n, e)) y.1))

run_get : (s j : ℕ) (os : List Origin) (d : Origin) → Run s os → j < length os → ((get_or os j d).offset ≡ s + j) × ((get_or os j d).exact ≡ true)
unfolding Run
run_get s j [] d r l = absurd (omega (arith, l))
run_get s zero (o ∷ os) d r l = let a = r.0 in (omega (arith, a), r.1.0)
run_get s (suc j) (o ∷ os) d r l = let h = run_get (s + 1) j os d r.1.1 (omega (arith, l)) in let a = h.0 in (omega (arith, a), h.1)

no_run : (s : ℕ) → Run s []
unfolding Run
no_run s = tt

-- which bytes these are
run_any : (s k n : ℕ) (os : List Origin) → Run s os → n ≡ length os → list_any (λ o. o.offset == k) os ≡ (nat_le s k && nat_lt k (s + n))
unfolding Run
run_any s k n [] r e = by_place (cases_lt k (s + n))
  where
    by_place : (k < s + n) ⊎ (s + n ≤ k) → false ≡ (nat_le s k && nat_lt k (s + n))
    by_place (inl l) = sym (ap (λ (c : Bool). c && nat_lt k (s + n)) (lt-leb s k (omega (arith, l, e))))
    by_place (inr l) = by_le (nat_le s k)
      where
        by_le : (c : Bool) → false ≡ (c && nat_lt k (s + n))
        by_le true = sym (le-ltb k (s + n) l)
        by_le false = refl
run_any s k n (o ∷ os) r e =
    let h = run_any (s + 1) k (n - 1) os r.1.1 (omega (arith, e)) in
    by_place r.0 h (cases_order k s)
  where
    by_place : o.offset ≡ s → list_any (λ o. o.offset == k) os ≡ (nat_le (s + 1) k && nat_lt k ((s + 1) + (n - 1))) → (k ≡ s) ⊎ ((k < s) ⊎ (s < k)) →
        ((o.offset == k) || list_any (λ o. o.offset == k) os) ≡ (nat_le s k && nat_lt k (s + n))
    by_place a h (inl q) =
        ap (λ (c : Bool). c || list_any (λ o. o.offset == k) os) (eq-eqb o.offset k (omega (arith, a, q)))
        ∙ sym (and_from (nat_le s k) (nat_lt k (s + n)) (le-leb s k (omega (arith, q))) (lt-ltb k (s + n) (omega (arith, q, e))))
    by_place a h (inr (inl l)) =
        ap₂ (λ (c d : Bool). c || d) (ne_eqb o.offset k (λ q. omega (arith, q, a, l))) (h ∙ and_left (nat_le (s + 1) k) (nat_lt k ((s + 1) + (n - 1))) (lt-leb (s + 1) k (omega (arith, l))))
        ∙ sym (and_left (nat_le s k) (nat_lt k (s + n)) (lt-leb s k l))
    by_place a h (inr (inr l)) =
        let m : (s + 1) + (n - 1) ≡ s + n = omega (arith, e) in
        ap₂ (λ (c d : Bool). c || d) (ne_eqb o.offset k (λ q. omega (arith, q, a, l))) h
        ∙ ap₂ (λ (c : Bool) (j : ℕ). c && nat_lt k j) (le-leb (s + 1) k (omega (arith, l)) ∙ sym (le-leb s k (omega (arith, l)))) m

run_of : (os : List Origin) (d : Origin) → 0 < length os → adjoin os ≡ true → Run (get_or os 0 d).offset os
run_of [] d l h = absurd (omega (arith, l))
run_of (o ∷ os) d l h = run_from o.offset o os refl h

-- what an edit that lifts replaces
pub record Stands (origins : List Origin) (e : Edit) : Type 0 where
  pub some : 0 < e.to
  pub anchor : exact_at origins (e.to - 1) ≡ true
  pub first : e.from < e.to → (exact_at origins e.from ≡ true) × (offset_at origins e.from ≡ (moved origins e).from)
  pub none : e.to ≤ e.from → (moved origins e).from ≡ (moved origins e).to
  pub room : e.to - e.from ≤ (moved origins e).to
  pub taken : (k : ℕ) → list_any (λ o. o.offset == k) (replaced origins e) ≡ (nat_le (moved origins e).from k && nat_lt k (moved origins e).to)

module _ (origins : List Origin) (e : Edit) (order : e.from ≤ e.to) (within : e.to ≤ length origins) (some : 0 < e.to) (anchor : exact_at origins (e.to - 1) ≡ true) where
  none_stands : e.to ≤ e.from → Stands origins e
  none_stands l =
      let z : e.to - e.from ≡ 0 = omega (arith, l) in
      let f : (moved origins e).from ≡ (moved origins e).to = omega (arith, z) in
      record {
        some = some;
        anchor = anchor;
        first = λ m. absurd (omega (arith, l, m));
        none = λ m. f;
        room = omega (arith, z);
        taken = λ k. ap (λ (n : ℕ). list_any (λ o. o.offset == k) (take n (drop e.from origins))) z
            ∙ run_any (moved origins e).from k 0 [] (no_run (moved origins e).from) refl
            ∙ ap (λ (j : ℕ). nat_le (moved origins e).from k && nat_lt k j) (let g : (moved origins e).from + 0 ≡ (moved origins e).to = omega (arith, f) in g);
      }

  some_stands : e.from < e.to → adjoin (replaced origins e) ≡ true → Stands origins e
  some_stands l h =
      let n = length-drop e.from origins in
      let c : length (replaced origins e) ≡ e.to - e.from = length-take-le (e.to - e.from) (drop e.from origins) (omega (arith, n, within)) in
      let zero_is : get_or (replaced origins e) 0 no_origin ≡ get_or origins e.from no_origin =
      get_or-take (e.to - e.from) (drop e.from origins) 0 no_origin (omega (arith, l)) ∙ get_or-drop e.from origins 0 no_origin
      ∙ ap (λ (k : ℕ). get_or origins k no_origin) (let q : e.from + 0 ≡ e.from = omega arith in q) in
      let last_is : get_or (replaced origins e) (e.to - e.from - 1) no_origin ≡ get_or origins (e.to - 1) no_origin =
      get_or-take (e.to - e.from) (drop e.from origins) (e.to - e.from - 1) no_origin (omega (arith, l)) ∙ get_or-drop e.from origins (e.to - e.from - 1) no_origin
      ∙ ap (λ (k : ℕ). get_or origins k no_origin) (let q : e.from + (e.to - e.from - 1) ≡ e.to - 1 = omega (arith, l) in q) in
      let r : Run (offset_at origins e.from) (replaced origins e) =
      subst (λ (o : Origin). Run o.offset (replaced origins e)) zero_is (run_of (replaced origins e) no_origin (omega (arith, c, l)) h) in
      let a = run_get (offset_at origins e.from) 0 (replaced origins e) no_origin r (omega (arith, c, l)) in
      let b = run_get (offset_at origins e.from) (e.to - e.from - 1) (replaced origins e) no_origin r (omega (arith, c, l)) in
      let x : exact_at origins e.from ≡ true = ap (λ (o : Origin). o.exact) (sym zero_is) ∙ a.1 in
      let y : offset_at origins (e.to - 1) ≡ offset_at origins e.from + (e.to - e.from - 1) = ap (λ (o : Origin). o.offset) (sym last_is) ∙ b.0 in
      let f : offset_at origins e.from ≡ (moved origins e).from = omega (arith, y, l) in
      let t : offset_at origins e.from + (e.to - e.from) ≡ (moved origins e).to = omega (arith, y, l) in
      record {
        some = some;
        anchor = anchor;
        first = λ m. (x, f);
        none = λ m. absurd (omega (arith, l, m));
        room = omega (arith, t);
        taken = λ k. run_any (offset_at origins e.from) k (e.to - e.from) (replaced origins e) r (sym c) ∙ ap₂ (λ (i j : ℕ). nat_le i k && nat_lt k j) f t;
      }

pub stands : (origins : List Origin) (e : Edit) → e.from ≤ e.to → e.to ≤ length origins → lifts origins e ≡ true → Stands origins e
stands origins e order within h =
    let x = and_parts (nat_lt 0 e.to) (exact_at origins (e.to - 1) && adjoin (replaced origins e)) h in
    let y = and_parts (exact_at origins (e.to - 1)) (adjoin (replaced origins e)) x.1 in
    by_size (ltb-true 0 e.to x.0) y.0 y.1 (cases_lt e.from e.to)
  where
    by_size : 0 < e.to → exact_at origins (e.to - 1) ≡ true → adjoin (replaced origins e) ≡ true → (e.from < e.to) ⊎ (e.to ≤ e.from) → Stands origins e
    by_size a b c (inl l) = some_stands origins e order within a b l c
    by_size a b c (inr l) = none_stands origins e order within a b l
