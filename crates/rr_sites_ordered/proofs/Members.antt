-- What holds of each element of a list that is made of others.
use Rattle.std.proofs.Common.{◌≡◌, ℕ, zero, suc, Bool, true, false, not, if◌then◌else◌, List, [], ◌∷◌, ◌++◌, map, take, filter, flat_map, refl}
use Rattle.std.specs.List.{AllByRecursion, list_any}
use Rattle.std.specs.Str.{bytes_eq}
use Rattle.rr_syntax.specs.Tree.{Identifier}
use Rattle.rr_flatten.proofs.HeadOf.{fold_over, all_append as both}
use Rattle.rr_overwrite.specs.Overwrites.{Target, first_targets}
use Rattle.rr_guard.specs.Names.{with_first, firsts}

module _ {X : Type 0} (P : X → Type 0) where
  pub all_filter : (t : X → Bool) (xs : List X) → AllByRecursion P xs → AllByRecursion (λ x. P x × (t x ≡ true)) (filter t xs)
  all_filter t [] h = tt
  all_filter t (x ∷ xs) h = by (t x) refl (all_filter t xs h.1)
    where
      by : (b : Bool) → t x ≡ b → AllByRecursion (λ x. P x × (t x ≡ true)) (filter t xs) → AllByRecursion (λ x. P x × (t x ≡ true)) (if b then x ∷ filter t xs else filter t xs)
      by true e r = ((h.0, e), r)
      by false e r = r

  pub all_weaken : {Q : X → Type 0} (xs : List X) → ((x : X) → P x → Q x) → AllByRecursion P xs → AllByRecursion Q xs
  all_weaken [] k h = tt
  all_weaken (x ∷ xs) k h = (k x h.0, all_weaken xs k h.1)

  pub all_take : (n : ℕ) (xs : List X) → AllByRecursion P xs → AllByRecursion P (take n xs)
  all_take zero xs h = tt
  all_take (suc n) [] h = tt
  all_take (suc n) (x ∷ xs) h = (h.0, all_take n xs h.1)

  pub all_map : {Y : Type 0} (f : Y → X) (ys : List Y) → AllByRecursion (λ y. P (f y)) ys → AllByRecursion P (map f ys)
  all_map f [] h = tt
  all_map f (y ∷ ys) h = (h.0, all_map f ys h.1)

  pub all_flat : {Y : Type 0} (f : Y → List X) (ys : List Y) → AllByRecursion (λ y. AllByRecursion P (f y)) ys → AllByRecursion P (flat_map f ys)
  all_flat f [] h = tt
  all_flat f (y ∷ ys) h = both P (f y) (flat_map f ys) h.0 (all_flat f ys h.1)

  pub all_every : (xs : List X) → ((x : X) → P x) → AllByRecursion P xs
  all_every [] h = tt
  all_every (x ∷ xs) h = (h x, all_every xs h)

pub all_firsts : (P : Identifier → Type 0) (xs : List Identifier) → AllByRecursion P xs → AllByRecursion P (firsts xs)
unfolding firsts
all_firsts P xs h = fold_over P (AllByRecursion P) with_first one xs [] h tt
  where
    one : (x : Identifier) (s : List Identifier) → P x → AllByRecursion P s → AllByRecursion P (with_first s x)
    one x s p h = by (list_any (λ (y : Identifier). bytes_eq y.text x.text) s)
      where
        by : (b : Bool) → AllByRecursion P (if b then s else s ++ x ∷ [])
        by true = h
        by false = both P s (x ∷ []) h (p, tt)

pub all_first_targets : (P : Target → Type 0) (xs : List Target) → AllByRecursion P xs → AllByRecursion P (first_targets xs)
unfolding first_targets
all_first_targets P [] h = tt
all_first_targets P (x ∷ xs) h = (h.0, all_weaken (λ y. P y × (not (bytes_eq y.text x.text) ≡ true)) (filter (λ y. not (bytes_eq y.text x.text)) (first_targets xs)) (λ y p. p.0) (all_filter P (λ y. not (bytes_eq y.text x.text)) (first_targets xs) (all_first_targets P xs h.1)))
