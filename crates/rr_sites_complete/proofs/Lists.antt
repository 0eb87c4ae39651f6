-- What stands in a list that is made of others.
use Rattle.std.proofs.Common.{◌≡◌, inl, inr, ◌⊎◌, zero, suc, Bool, true, false, if◌then◌else◌, List, [], ◌∷◌, map, filter, flat_map, Contains, refl, sym, subst, arith}
use Rattle.std.specs.List.{AllByRecursion}
use Rattle.std.proofs.lemmas.List.Elements.{Contains-append_left, Contains-append_right, Contains-append_cases}

module _ {X : Type 0} where
  pub head_in : (x : X) (xs : List X) → Contains (x ∷ xs) x
  head_in x xs = (zero, omega arith, refl)

  pub tail_in : (y : X) (xs : List X) (x : X) → Contains xs x → Contains (y ∷ xs) x
  tail_in y xs x (k, l, e) = (suc k, omega (arith, l), e)

  pub none_in : (x : X) → Contains [] x → ⊥
  none_in x (k, l, e) = omega (arith, l)

  pub cases_in : (y : X) (xs : List X) (x : X) → Contains (y ∷ xs) x → (y ≡ x) ⊎ Contains xs x
  cases_in y xs x (zero, l, e) = inl e
  cases_in y xs x (suc k, l, e) = inr (k, omega (arith, l), e)

  pub all_in : (P : X → Type 0) (xs : List X) (x : X) → AllByRecursion P xs → Contains xs x → P x
  all_in P [] x h c = absurd (none_in x c)
  all_in P (y ∷ ys) x h c = elim (cases_in y ys x c) [
    | inl e ↦ subst P e h.0
    | inr d ↦ all_in P ys x h.1 d
  ]

  pub every_in : (P : X → Type 0) (xs : List X) → ((x : X) → Contains xs x → P x) → AllByRecursion P xs
  every_in P [] h = tt
  every_in P (x ∷ xs) h = (h x (head_in x xs), every_in P xs (λ y c. h y (tail_in x xs y c)))

  pub filter_in : (t : X → Bool) (xs : List X) (x : X) → Contains xs x → t x ≡ true → Contains (filter t xs) x
  filter_in t [] x c h = absurd (none_in x c)
  filter_in t (y ∷ ys) x c h = elim (cases_in y ys x c) [
    | inl e ↦ subst (λ b. Contains (if b then y ∷ filter t ys else filter t ys) x) (sym (subst (λ w. t w ≡ true) (sym e) h)) (subst (Contains (y ∷ filter t ys)) e (head_in y (filter t ys)))
    | inr d ↦ by (t y) (filter_in t ys x d h)
  ]
    where
      by : (b : Bool) → Contains (filter t ys) x → Contains (if b then y ∷ filter t ys else filter t ys) x
      by true c = tail_in y (filter t ys) x c
      by false c = c

  pub filter_from : (t : X → Bool) (xs : List X) (x : X) → Contains (filter t xs) x → Contains xs x × (t x ≡ true)
  filter_from t [] x c = absurd (none_in x c)
  filter_from t (y ∷ ys) x c = by (λ d. let r = filter_from t ys x d in (tail_in y ys x r.0, r.1)) (t y) refl c
    where
      by : (Contains (filter t ys) x → Contains (y ∷ ys) x × (t x ≡ true)) → (b : Bool) → t y ≡ b → Contains (if b then y ∷ filter t ys else filter t ys) x → Contains (y ∷ ys) x × (t x ≡ true)
      by later true e c = elim (cases_in y (filter t ys) x c) [
        | inl q ↦ (subst (Contains (y ∷ ys)) q (head_in y ys), subst (λ w. t w ≡ true) q e)
        | inr d ↦ later d
      ]
      by later false e c = later c

pub flat_in : {X Y : Type 0} (f : Y → List X) (ys : List Y) (y : Y) (x : X) → Contains ys y → Contains (f y) x → Contains (flat_map f ys) x
flat_in f [] y x c h = absurd (none_in y c)
flat_in f (z ∷ ys) y x c h = elim (cases_in z ys y c) [
  | inl e ↦ Contains-append_left (f z) (flat_map f ys) x (subst (λ w. Contains (f w) x) (sym e) h)
  | inr d ↦ Contains-append_right (f z) (flat_map f ys) x (flat_in f ys y x d h)
]

pub flat_from : {X Y : Type 0} (f : Y → List X) (ys : List Y) (x : X) → Contains (flat_map f ys) x → (y : Y) × Contains ys y × Contains (f y) x
flat_from f [] x c = absurd (none_in x c)
flat_from f (z ∷ ys) x c = elim (Contains-append_cases (f z) (flat_map f ys) x c) [
  | inl h ↦ (z, head_in z ys, h)
  | inr d ↦ let r = flat_from f ys x d in (r.0, tail_in z ys r.0 r.1, r.2)
]

pub map_in : {X Y : Type 0} (f : Y → X) (ys : List Y) (y : Y) → Contains ys y → Contains (map f ys) (f y)
map_in f [] y c = absurd (none_in y c)
map_in f (z ∷ ys) y c = elim (cases_in z ys y c) [
  | inl e ↦ subst (λ w. Contains (f z ∷ map f ys) (f w)) e (head_in (f z) (map f ys))
  | inr d ↦ tail_in (f z) (map f ys) (f y) (map_in f ys y d)
]

pub map_from : {X Y : Type 0} (f : Y → X) (ys : List Y) (x : X) → Contains (map f ys) x → (y : Y) × Contains ys y × (f y ≡ x)
map_from f [] x c = absurd (none_in x c)
map_from f (z ∷ ys) x c = elim (cases_in (f z) (map f ys) x c) [
  | inl e ↦ (z, head_in z ys, e)
  | inr d ↦ let r = map_from f ys x d in (r.0, tail_in z ys r.0 r.1, r.2)
]
