-- What holds of each element of a list that is made of others.
use Rattle.std.proofs.Common.{◌⊎◌, List, [], ◌∷◌, map, flat_map}
use Rattle.std.specs.List.{AllByRecursion}
use Rattle.rr_flatten.proofs.HeadOf.{all_append}

module _ {X : Type 0} (P : X → Type 0) where
  pub all_weaken : {Q : X → Type 0} (xs : List X) → ((x : X) → P x → Q x) → AllByRecursion P xs → AllByRecursion Q xs
  all_weaken [] k h = tt
  all_weaken (x ∷ xs) k h = (k x h.0, all_weaken xs k h.1)

  pub all_map : {Y : Type 0} (f : Y → X) (ys : List Y) → AllByRecursion (λ y. P (f y)) ys → AllByRecursion P (map f ys)
  all_map f [] h = tt
  all_map f (y ∷ ys) h = (h.0, all_map f ys h.1)

  pub all_flat : {Y : Type 0} (f : Y → List X) (ys : List Y) → AllByRecursion (λ y. AllByRecursion P (f y)) ys → AllByRecursion P (flat_map f ys)
  all_flat f [] h = tt
  all_flat f (y ∷ ys) h = all_append P (f y) (flat_map f ys) h.0 (all_flat f ys h.1)

  pub all_every : (xs : List X) → ((x : X) → P x) → AllByRecursion P xs
  all_every [] h = tt
  all_every (x ∷ xs) h = (h x, all_every xs h)

-- it holds of an element
unfoldable pub Somewhere : {X : Type 0} → (X → Type 0) → List X → Type 0
Somewhere P [] = ⊥
Somewhere P (x ∷ xs) = P x ⊎ Somewhere P xs
