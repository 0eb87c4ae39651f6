-- Names in lists and in scopes.
use Rattle.std.proofs.Common.{◌≡◌, ◌∙◌, sym, ◌⊎◌, inl, inr, ℕ, zero, suc, ◌<◌, Bool, true, false, cond, List, [], ◌∷◌, ◌++◌, length, map, fold, get_or, Option, Some, None, refl, arith, subst, is_some, is_none, if◌then◌else◌}
use Rattle.std.specs.List.{Contains, flat_map, AllByRecursion}
use Rattle.std.specs.Str.{bytes_eq}
use Rattle.std.proofs.lemmas.List.Elements.{Contains-append_left, Contains-append_right, Contains-append_cases}
use Rattle.std.proofs.lemmas.Bool.{both_ways}
use Rattle.std.proofs.lemmas.Slice.Eq.{bytes_eq-Decides}
use Rattle.rr_expr.specs.Scopes.{Names, lookup}
use Rattle.rr_expr.specs.declared.types.Entity.{Entity}
use Rattle.rr_flat.specs.Signals.{Text, with_name}

-- Elements

pub some_is : {X : Type 0} (a b : X) → Some a ≡ Some b → a ≡ b
some_is a b e = cc

pub none_some : {X : Type 0} (a : X) → None ≡ Some a → ⊥
none_some a e = cc

pub nowhere : {X : Type 0} (x : X) → Contains [] x → ⊥
nowhere x (k, l, e) = omega (arith, l)

only : {X : Type 0} (y x : X) → Contains (y ∷ []) x → y ≡ x
only y x (zero, l, e) = e
only y x (suc k, l, e) = absurd (omega (arith, l))

pub there_cases : {X : Type 0} (y : X) (ys : List X) (x : X) → Contains (y ∷ ys) x → (y ≡ x) ⊎ Contains ys x
there_cases y ys x c = by (Contains-append_cases (y ∷ []) ys x c)
  where
    by : Contains (y ∷ []) x ⊎ Contains ys x → (y ≡ x) ⊎ Contains ys x
    by (inl a) = inl (only y x a)
    by (inr b) = inr b

pub here : {X : Type 0} (x : X) (xs : List X) → Contains (x ∷ xs) x
here x xs = (0, omega arith, refl)

pub later : {X : Type 0} (y : X) (ys : List X) (x : X) → Contains ys x → Contains (y ∷ ys) x
later y ys x c = Contains-append_right (y ∷ []) ys x c

-- what holds of the elements of a list
pub all_in : {X : Type 0} (P : X → Type 0) (xs : List X) → ((x : X) → Contains xs x → P x) → AllByRecursion P xs
all_in P [] h = tt
all_in P (x ∷ xs) h = (h x (here x xs), all_in P xs (λ y c. h y (later x xs y c)))

pub in_all : {X : Type 0} (P : X → Type 0) (xs : List X) (x : X) → AllByRecursion P xs → Contains xs x → P x
in_all P [] x h c = absurd (nowhere x c)
in_all P (y ∷ ys) x h c = elim (there_cases y ys x c) [ inl e ↦ subst P e h.0 | inr k ↦ in_all P ys x h.1 k ]

pub in_map : {X Y : Type 0} (f : X → Y) (xs : List X) (x : X) → Contains xs x → Contains (map f xs) (f x)
in_map f [] x c = absurd (nowhere x c)
in_map f (y ∷ ys) x c = elim (there_cases y ys x c) [
  | inl e ↦ subst (λ z. Contains (f y ∷ map f ys) (f z)) e (here (f y) (map f ys))
  | inr k ↦ later (f y) (map f ys) (f x) (in_map f ys x k)
]

-- by an element of one of the lists
pub in_flat : {X Y : Type 0} (f : X → List Y) (xs : List X) (x : X) (y : Y) → Contains xs x → Contains (f x) y → Contains (flat_map f xs) y
in_flat f [] x y c d = absurd (nowhere x c)
in_flat f (z ∷ zs) x y c d = elim (there_cases z zs x c) [
  | inl e ↦ Contains-append_left (f z) (flat_map f zs) y (subst (λ u. Contains (f u) y) (sym e) d)
  | inr k ↦ Contains-append_right (f z) (flat_map f zs) y (in_flat f zs x y k d)
]

abbrev pub none_of : (Y : Type 0) → List Y
none_of Y = []

-- no text stands twice
abbrev pub Distinct : List Text → Type 0
Distinct [] = Unit {0}
Distinct (x ∷ xs) = (Contains xs x → ⊥) × Distinct xs

pub distinct_append : (xs ys : List Text) → Distinct xs → Distinct ys → ((n : Text) → Contains xs n → Contains ys n → ⊥) → Distinct (xs ++ ys)
distinct_append [] ys d e h = e
distinct_append (x ∷ xs) ys d e h = (λ c. by (Contains-append_cases xs ys x c), distinct_append xs ys d.1 e (λ n a b. h n (later x xs n a) b))
  where
    by : Contains xs x ⊎ Contains ys x → ⊥
    by (inl a) = d.0 a
    by (inr b) = h x (here x xs) b

pub distinct_left : (xs ys : List Text) → Distinct (xs ++ ys) → Distinct xs
distinct_left [] ys d = tt
distinct_left (x ∷ xs) ys d = (λ c. d.0 (Contains-append_left xs ys x c), distinct_left xs ys d.1)

pub distinct_apart : (xs ys : List Text) (n : Text) → Distinct (xs ++ ys) → Contains xs n → Contains ys n → ⊥
distinct_apart [] ys n d a b = nowhere n a
distinct_apart (x ∷ xs) ys n d a b = elim (there_cases x xs n a) [
  | inl e ↦ d.0 (Contains-append_right xs ys x (subst (Contains ys) (sym e) b))
  | inr k ↦ distinct_apart xs ys n d.1 k b
]

-- no two places have the same text
pub distinct_places : (xs : List Text) → ((p q : ℕ) → p < length xs → q < length xs → get_or xs p [] ≡ get_or xs q [] → p ≡ q) → Distinct xs
distinct_places [] h = tt
distinct_places (x ∷ xs) h = (first, distinct_places xs (λ p q l m e. let s : suc p ≡ suc q = h (suc p) (suc q) (omega arith) (omega arith) e in omega (arith, s)))
  where
    got : (ys : List Text) (k : ℕ) (d : Text) → k < length ys → get_or ys k d ≡ get_or ys k []
    got [] k d l = absurd (omega (arith, l))
    got (y ∷ ys) zero d l = refl
    got (y ∷ ys) (suc k) d l = got ys k d (omega (arith, l))

    first : Contains xs x → ⊥
    first (k, l, e) = let s : 0 ≡ suc k = h 0 (suc k) (omega arith) (omega (arith, l)) (sym (sym (got xs k x l) ∙ e)) in omega (arith, s)

-- Scopes

pub same_text : (a b : Text) → bytes_eq a b ≡ true → a ≡ b
same_text a b h = (bytes_eq-Decides a b).0 h

pub text_same : (a b : Text) → a ≡ b → bytes_eq a b ≡ true
text_same a b h = (bytes_eq-Decides a b).1 h

pub found_stays : (names more : Names) (n : Text) (x : Entity) → lookup n names ≡ Some x → lookup n (names ++ more) ≡ Some x
unfolding lookup
found_stays [] more n x h = absurd (none_some x h)
found_stays (e ∷ es) more n x h = by (bytes_eq n e.0) h (found_stays es more n x)
  where
    by : (b : Bool) → cond b (Some e.1) (lookup n es) ≡ Some x → (lookup n es ≡ Some x → lookup n (es ++ more) ≡ Some x) → cond b (Some e.1) (lookup n (es ++ more)) ≡ Some x
    by true h k = h
    by false h k = k h

pub found_last : (names : Names) (n : Text) (x : Entity) → lookup n names ≡ None → lookup n (names ++ (n, x) ∷ []) ≡ Some x
unfolding lookup
found_last [] n x h = rw (text_same n n refl) refl
found_last (e ∷ es) n x h = by (bytes_eq n e.0) h (found_last es n x)
  where
    by : (b : Bool) → cond b (Some e.1) (lookup n es) ≡ None → (lookup n es ≡ None → lookup n (es ++ (n, x) ∷ []) ≡ Some x) → cond b (Some e.1) (lookup n (es ++ (n, x) ∷ [])) ≡ Some x
    by true h k = absurd (none_some e.1 (sym h))
    by false h k = k h

last_cases : (names : Names) (n m : Text) (x y : Entity) → lookup n (names ++ (m, y) ∷ []) ≡ Some x → (lookup n names ≡ Some x) ⊎ ((n ≡ m) × (x ≡ y))
unfolding lookup
last_cases [] n m x y h = by (bytes_eq n m) refl h
  where
    by : (b : Bool) → bytes_eq n m ≡ b → cond b (Some y) None ≡ Some x → (lookup n [] ≡ Some x) ⊎ ((n ≡ m) × (x ≡ y))
    by true q h = inr (same_text n m q, sym (some_is y x h))
    by false q h = absurd (none_some x h)
last_cases (e ∷ es) n m x y h = by (bytes_eq n e.0) h (last_cases es n m x y)
  where
    by : (b : Bool) → cond b (Some e.1) (lookup n (es ++ (m, y) ∷ [])) ≡ Some x → (lookup n (es ++ (m, y) ∷ []) ≡ Some x → (lookup n es ≡ Some x) ⊎ ((n ≡ m) × (x ≡ y)))
        → (cond b (Some e.1) (lookup n es) ≡ Some x) ⊎ ((n ≡ m) × (x ≡ y))
    by true h k = inl h
    by false h k = k h

pub with_stays : (names : Names) (m n : Text) (x y : Entity) → lookup n names ≡ Some x → lookup n (with_name names m y) ≡ Some x
with_stays names m n x y h = by (is_some (lookup m names))
  where
    by : (b : Bool) → lookup n (if b then names else names ++ (m, y) ∷ []) ≡ Some x
    by true = h
    by false = found_stays names ((m, y) ∷ []) n x h

-- one that is new, and what is found after it
pub with_new : (names : Names) (m : Text) (y : Entity) → lookup m names ≡ None → lookup m (with_name names m y) ≡ Some y
with_new names m y h = rw h (found_last names m y h)

pub with_cases : (names : Names) (n m : Text) (x y : Entity) → lookup n (with_name names m y) ≡ Some x → (lookup n names ≡ Some x) ⊎ ((n ≡ m) × (x ≡ y))
with_cases names n m x y h = by (is_some (lookup m names)) h
  where
    by : (b : Bool) → lookup n (if b then names else names ++ (m, y) ∷ []) ≡ Some x → (lookup n names ≡ Some x) ⊎ ((n ≡ m) × (x ≡ y))
    by true h = inl h
    by false h = last_cases names n m x y h

pub none_before : (names : Names) (m n : Text) (y : Entity) → lookup n (with_name names m y) ≡ None → lookup n names ≡ None
none_before names m n y h = by (lookup n names) refl
  where
    by : (o : Option Entity) → lookup n names ≡ o → o ≡ None
    by None q = refl
    by (Some x) q = absurd (none_some x (sym h ∙ with_stays names m n x y q))

-- found or not
pub is_none_of : {X : Type 0} (o : Option X) → is_some o ≡ false → o ≡ None
is_none_of None h = refl
is_none_of (Some x) h = cc

pub found_of : {X : Type 0} (o : Option X) → is_some o ≡ true → (x : X) × (o ≡ Some x)
found_of None h = cc
found_of (Some x) h = (x, refl)

pub found_some : {X : Type 0} (o : Option X) (x : X) → o ≡ Some x → is_some o ≡ true
found_some o x h = rw h refl

pub some_with : (names : Names) (n m : Text) (y : Entity) → is_some (lookup n (with_name names m y)) ≡ true → (is_some (lookup n names) ≡ true) ⊎ (n ≡ m)
some_with names n m y h = let f = found_of (lookup n (with_name names m y)) h in by (with_cases names n m f.0 y f.1)
  where
    by : {x : Entity} → (lookup n names ≡ Some x) ⊎ ((n ≡ m) × (x ≡ y)) → (is_some (lookup n names) ≡ true) ⊎ (n ≡ m)
    by (inl a) = inl (found_some (lookup n names) _ a)
    by (inr b) = inr b.0

-- what names a fold over a list makes known
pub known_from : {X : Type 0} (f : X → List Text) (step : Names → X → Names) →
    ((names : Names) (x : X) (n : Text) → is_some (lookup n (step names x)) ≡ true → (is_some (lookup n names) ≡ true) ⊎ Contains (f x) n) →
    (xs : List X) (names : Names) (n : Text) → is_some (lookup n (fold step names xs)) ≡ true → (is_some (lookup n names) ≡ true) ⊎ Contains (flat_map f xs) n
known_from f step k [] names n h = inl h
known_from f step k (x ∷ xs) names n h = elim (known_from f step k xs (step names x) n h) [
  | inl a ↦ elim (k names x n a) [ inl b ↦ inl b | inr b ↦ inr (Contains-append_left (f x) (flat_map f xs) n b) ]
  | inr b ↦ inr (Contains-append_right (f x) (flat_map f xs) n b)
]

pub flat_none : {X Y : Type 0} (xs : List X) → flat_map (λ (x : X). none_of Y) xs ≡ []
flat_none [] = refl
flat_none (x ∷ xs) = flat_none xs

pub there_of : {X : Type 0} (o : Option X) → is_none o ≡ false → is_some o ≡ true
there_of None h = absurd (both_ways true h refl)
there_of (Some x) h = refl

-- what each of the entries has
pub found_entry : (Q : Entity → Type 0) (names : Names) (n : Text) (x : Entity) → AllByRecursion (λ e. Q e.1) names → lookup n names ≡ Some x → Q x
unfolding lookup
found_entry Q [] n x q h = absurd (none_some x h)
found_entry Q (e ∷ es) n x q h = by (bytes_eq n e.0) h (found_entry Q es n x q.1)
  where
    by : (b : Bool) → cond b (Some e.1) (lookup n es) ≡ Some x → (lookup n es ≡ Some x → Q x) → Q x
    by true h k = subst Q (some_is e.1 x h) q.0
    by false h k = k h

pub nothing_known : (n : Text) → is_some (lookup n []) ≡ true → ⊥
unfolding lookup
nothing_known n h = both_ways false refl h
