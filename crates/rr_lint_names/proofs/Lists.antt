-- One element more in a list, and what is among its elements.
use Rattle.std.proofs.Common.{◌≡◌, ◌∙◌, sym, ap, subst, refl, ℕ, ◌+◌, ◌<◌, ◌≤◌, Bool, true, false, ◌||◌, List, [], ◌∷◌, ◌++◌, map, take, get_or, length}
use Rattle.std.specs.List.{list_any}
use Rattle.std.proofs.lemmas.List.{get_or_default, take_more, take_all}

pub or_last : (b : Bool) → (b || false) ≡ b
or_last true = refl
or_last false = refl

or_assoc : (a b c : Bool) → (a || (b || c)) ≡ ((a || b) || c)
or_assoc true b c = refl
or_assoc false b c = refl

pub any_snoc : {A : Type 0} (f : A → Bool) (xs : List A) (x : A) → list_any f (xs ++ x ∷ []) ≡ (list_any f xs || f x)
any_snoc f [] x = or_last (f x)
any_snoc f (y ∷ xs) x = ap (λ b. f y || b) (any_snoc f xs x) ∙ or_assoc (f y) (list_any f xs) (f x)

pub any_map : {A B : Type 0} (f : B → Bool) (g : A → B) (xs : List A) → list_any f (map g xs) ≡ list_any (λ x. f (g x)) xs
any_map f g [] = refl
any_map f g (x ∷ xs) = ap (λ b. f (g x) || b) (any_map f g xs)

-- some element, and the next
pub any_next : {A : Type 0} (f : A → Bool) (xs : List A) (i : ℕ) (x : A) → i < length xs → x ≡ get_or xs i x → list_any f (take (i + 1) xs) ≡ (list_any f (take i xs) || f x)
any_next f xs i x l is = ap (list_any f) (take_more xs i x l ∙ ap (λ y. take i xs ++ y ∷ []) (sym is)) ∙ any_snoc f (take i xs) x

pub any_full : {A : Type 0} (f : A → Bool) (xs : List A) (i : ℕ) → length xs ≤ i → list_any f (take i xs) ≡ list_any f xs
any_full f xs i l = ap (list_any f) (take_all i xs l)

-- the same where the elements are read by another function
pub any_map_next : {A B : Type 0} (f : B → Bool) (g : A → B) (xs : List A) (i : ℕ) (x : A) → i < length xs → x ≡ get_or xs i x → list_any f (map g (take (i + 1) xs)) ≡ (list_any f (map g (take i xs)) || f (g x))
any_map_next f g xs i x l is = any_map f g (take (i + 1) xs) ∙ any_next (λ y. f (g y)) xs i x l is ∙ ap (λ b. b || f (g x)) (sym (any_map f g (take i xs)))

pub any_map_full : {A B : Type 0} (f : B → Bool) (g : A → B) (xs : List A) (i : ℕ) → length xs ≤ i → list_any f (map g (take i xs)) ≡ list_any f (map g xs)
any_map_full f g xs i l = ap (λ ys. list_any f (map g ys)) (take_all i xs l)

-- one test more, in a step
pub step : (a b c d e : Bool) → a ≡ (b || c) → d ≡ (a || e) → d ≡ (b || (c || e))
step a b c d e h k = k ∙ ap (λ x. x || e) h ∙ sym (or_assoc b c e)

-- the element that passes a test
pub record Found {A : Type 0} (f : A → Bool) (xs : List A) : Type 0 where
  pub item : A
  pub among : (g : A → Bool) → g item ≡ true → list_any g xs ≡ true
  pub passes : f item ≡ true

or_true : (b : Bool) → (b || true) ≡ true
or_true true = refl
or_true false = refl

pub find : {A : Type 0} (f : A → Bool) (xs : List A) → list_any f xs ≡ true → Found f xs
find f [] h = absurd (let bad : false ≡ true = h in cc)
find f (x ∷ xs) h = go (f x) refl (λ k. find f xs k)
  where
    go : (b : Bool) → f x ≡ b → (list_any f xs ≡ true → Found f xs) → Found f (x ∷ xs)
    go true e rest = record { item = x; among = λ g k. ap (λ c. c || list_any g xs) k; passes = e }
    go false e rest =
        let r : Found f xs = rest (subst (λ (c : Bool). (c || list_any f xs) ≡ true) e h) in
        record { item = r.item; among = λ g k. ap (λ c. g x || c) (r.among g k) ∙ or_true (g x); passes = r.passes }

-- at the start of a loop over a list
pub any_none : {A : Type 0} (f : A → Bool) (xs : List A) → list_any f (take 0 xs) ≡ false
any_none f [] = refl
any_none f (x ∷ xs) = refl

pub or_none : {A B : Type 0} (f : B → Bool) (g : A → B) (xs : List A) (b : Bool) → b ≡ (b || list_any f (map g (take 0 xs)))
or_none f g [] b = sym (or_last b)
or_none f g (x ∷ xs) b = sym (or_last b)

-- a step of a loop over a list
pub any_step : {A : Type 0} (f : A → Bool) (xs : List A) (i : ℕ) (d : A) (old new : Bool) → i < length xs → old ≡ list_any f (take i xs) → new ≡ (old || f (get_or xs i d)) → new ≡ list_any f (take (i + 1) xs)
any_step f xs i d old new l h k =
    k ∙ ap (λ b. b || f (get_or xs i d)) h ∙ sym (any_next f xs i (get_or xs i d) l (get_or_default xs i d (get_or xs i d) l))

pub any_map_step : {A B : Type 0} (f : B → Bool) (g : A → B) (xs : List A) (i : ℕ) (d : A) (start old new : Bool) → i < length xs → old ≡ (start || list_any f (map g (take i xs))) → new ≡ (old || f (g (get_or xs i d))) →
    new ≡ (start || list_any f (map g (take (i + 1) xs)))
any_map_step f g xs i d start old new l h k =
    step old start (list_any f (map g (take i xs))) new (f (g (get_or xs i d))) h k
    ∙ ap (λ b. start || b) (sym (any_map_next f g xs i (get_or xs i d) l (get_or_default xs i d (get_or xs i d) l)))
