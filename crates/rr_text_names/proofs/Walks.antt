-- Walks over a list: lists that grow by those of each element, and the first of the faults of each.
use Rattle.std.proofs.Common.{◌≡◌, sym, ap, ℕ, ◌+◌, ◌<◌, ◌≤◌, true, false, List, [], ◌∷◌, ◌++◌, length, map, drop, get_or, Option, None, Some, is_some, refl, append_assoc, append-nil}
use Rattle.std.specs.Prelude.{flat_map, IfNone, IfSome}
use Rattle.std.specs.Option.{option_or}
use Rattle.std.proofs.lemmas.List.{drop_all}
use Rattle.rr_flat.proofs.Lists.{rest}
use Rattle.rr_text_names.specs.Firsts.{earliest}

pub none_of : {X : Type 0} (o : Option X) → is_some o ≡ false → o ≡ None
none_of None e = refl
none_of (Some x) e = cc

-- growing lists

pub add_more : {X A : Type 0} (f : X → List A) (acc : List A) (xs : List X) (i : ℕ) (x : X) → i < length xs → x ≡ get_or xs i x
    → acc ++ f x ++ flat_map f (drop (i + 1) xs) ≡ acc ++ flat_map f (drop i xs)
add_more f acc xs i x lt is = rw (rest xs i x lt, ← is) (append_assoc acc (f x) (flat_map f (drop (i + 1) xs)))

pub add_done : {X A : Type 0} (f : X → List A) (acc : List A) (xs : List X) (i : ℕ) → length xs ≤ i → acc ++ flat_map f (drop i xs) ≡ acc
add_done f acc xs i le = rw (drop_all i xs le) (append-nil acc)

-- the first of a list

pub earliest_append : (xs ys : List ℕ) → earliest (xs ++ ys) ≡ option_or (earliest xs) (earliest ys)
unfolding earliest
earliest_append [] ys = refl
earliest_append (x ∷ xs) ys = refl

pub earliest_skip : (xs ys : List ℕ) → is_some (earliest xs) ≡ false → earliest (xs ++ ys) ≡ earliest ys
earliest_skip xs ys e = rw (earliest_append xs ys, none_of (earliest xs) e) refl

pub earliest_hit : (xs ys : List ℕ) → is_some (earliest xs) ≡ true → earliest (xs ++ ys) ≡ earliest xs
unfolding earliest
earliest_hit [] ys e = cc
earliest_hit (x ∷ xs) ys e = refl

pub walk_skip : {X : Type 0} (f : X → List ℕ) (xs : List X) (i : ℕ) (x : X) → i < length xs → x ≡ get_or xs i x
    → is_some (earliest (f x)) ≡ false → earliest (flat_map f (drop (i + 1) xs)) ≡ earliest (flat_map f (drop i xs))
walk_skip f xs i x lt is e = rw (rest xs i x lt, ← is) (sym (earliest_skip (f x) (flat_map f (drop (i + 1) xs)) e))

pub walk_hit : {X : Type 0} (f : X → List ℕ) (xs : List X) (i : ℕ) (x : X) → i < length xs → x ≡ get_or xs i x
    → is_some (earliest (f x)) ≡ true → earliest (f x) ≡ earliest (flat_map f (drop i xs))
walk_hit f xs i x lt is e = rw (rest xs i x lt, ← is) (sym (earliest_hit (f x) (flat_map f (drop (i + 1) xs)) e))

pub walk_done : {X : Type 0} (f : X → List ℕ) (xs : List X) (i : ℕ) → length xs ≤ i → None ≡ earliest (flat_map f (drop i xs))
unfolding earliest
walk_done f xs i le = rw (drop_all i xs le) refl

-- empty lists

pub empty_of : (xs : List ℕ) → earliest xs ≡ None → xs ≡ []
unfolding earliest
empty_of [] e = refl
empty_of (x ∷ xs) e = cc

pub left_empty : {A : Type 0} (xs ys : List A) → xs ++ ys ≡ [] → xs ≡ []
left_empty [] ys e = refl
left_empty (x ∷ xs) ys e = cc

pub right_empty : {A : Type 0} (xs ys : List A) → xs ++ ys ≡ [] → ys ≡ []
right_empty [] ys e = e
right_empty (x ∷ xs) ys e = cc

-- the same steps where the element is named by its place

pub walk_skip_at : {X : Type 0} (f : X → List ℕ) (xs : List X) (i : ℕ) (d : X) → i < length xs
    → is_some (earliest (f (get_or xs i d))) ≡ false → earliest (flat_map f (drop (i + 1) xs)) ≡ earliest (flat_map f (drop i xs))
walk_skip_at f xs i d lt e = rw (rest xs i d lt) (sym (earliest_skip (f (get_or xs i d)) (flat_map f (drop (i + 1) xs)) e))

pub walk_hit_at : {X : Type 0} (f : X → List ℕ) (xs : List X) (i : ℕ) (d : X) → i < length xs
    → is_some (earliest (f (get_or xs i d))) ≡ true → earliest (f (get_or xs i d)) ≡ earliest (flat_map f (drop i xs))
walk_hit_at f xs i d lt e = rw (rest xs i d lt) (sym (earliest_hit (f (get_or xs i d)) (flat_map f (drop (i + 1) xs)) e))

pub flat_map_map : {X Y A : Type 0} (f : Y → List A) (g : X → Y) (xs : List X) → flat_map (λ x. f (g x)) xs ≡ flat_map f (map g xs)
flat_map_map f g [] = refl
flat_map_map f g (x ∷ xs) = ap (λ z. f (g x) ++ z) (flat_map_map f g xs)

-- the answer for a design, on both sides

pub first_none : (P : Type 0) (faults : List ℕ) (o : Option ℕ) → (faults ≡ [] → P) → o ≡ earliest faults → IfNone o P
first_none P faults None h e = h (empty_of faults (sym e))
first_none P faults (Some x) h e = tt

pub first_some : (P : Type 0) (faults : List ℕ) (o : Option ℕ) → (P → faults ≡ []) → o ≡ earliest faults → IfSome o (λ at. P → ⊥)
unfolding earliest
first_some P faults None h e = tt
first_some P faults (Some x) h e = λ p. let bad : Some x ≡ None = rw (h p) at e in cc
