-- How often bits stand in lists.
use Rattle.std.proofs.Common.{◌≡◌, ◌∙◌, ap, ℕ, zero, suc, ◌+◌, ◌<◌, ◌≤◌, inl, inr, Bool, true, false, cond, ◌||◌, List, [], ◌∷◌, ◌++◌, get_or, Option, None, Some, refl, arith}
use Rattle.std.proofs.lemmas.Bool.{or_cases}
use Rattle.rr_expr.specs.declared.types.Bit.{Bit}
use Rattle.rr_flat.specs.Targets.{same_bit, has_bit}
use Rattle.rr_writers.specs.Marks.{times}
use Rattle.rr_writers.proofs.Entries.{same_is, is_same}

pub times-append : (xs ys : List (Option Bit)) (b : Bit) → times (xs ++ ys) b ≡ times xs b + times ys b
unfolding times
times-append [] ys b = omega arith
times-append (None ∷ xs) ys b = times-append xs ys b
times-append (Some c ∷ xs) ys b = let r = times-append xs ys b in omega (arith, r)

pub has_times : (xs : List (Option Bit)) (b : Bit) → has_bit xs b ≡ true → 1 ≤ times xs b
unfolding times has_bit
has_times [] b h = cc
has_times (None ∷ xs) b h = has_times xs b h
has_times (Some c ∷ xs) b h = elim (or_cases (same_bit c b) (has_bit xs b) h) [
  | inl e ↦ rw e (omega arith)
  | inr t ↦ let r = has_times xs b t in omega (arith, r)
]

pub no_times : (xs : List (Option Bit)) (b : Bit) → has_bit xs b ≡ false → times xs b ≡ 0
unfolding times has_bit
no_times [] b h = refl
no_times (None ∷ xs) b h = no_times xs b h
no_times (Some c ∷ xs) b h = go (same_bit c b) h (no_times xs b)
  where
    go : (t : Bool) → (t || has_bit xs b) ≡ false → (has_bit xs b ≡ false → times xs b ≡ 0) → cond t 1 0 + times xs b ≡ 0
    go true h later = cc
    go false h later = let r = later h in omega (arith, r)

-- by places

pub at_times : (xs : List (Option Bit)) (i : ℕ) (b : Bit) → get_or xs i None ≡ Some b → 1 ≤ times xs b
unfolding times
at_times [] i b h = cc
at_times (None ∷ xs) zero b h = cc
at_times (Some c ∷ xs) zero b h =
    let e : c ≡ b = cc in
    let t : same_bit c b ≡ true = ap (λ z. same_bit z b) e ∙ is_same b in
    rw t (omega arith)
at_times (None ∷ xs) (suc i) b h = at_times xs i b h
at_times (Some c ∷ xs) (suc i) b h = let r = at_times xs i b h in omega (arith, r)

pub two_places : (xs : List (Option Bit)) (i j : ℕ) (b : Bit) → get_or xs i None ≡ Some b → get_or xs j None ≡ Some b → i < j → 2 ≤ times xs b
unfolding times
two_places [] i j b h k l = cc
two_places (None ∷ xs) zero j b h k l = cc
two_places (Some c ∷ xs) zero zero b h k l = absurd (omega arith)
two_places (Some c ∷ xs) zero (suc j) b h k l =
    let e : c ≡ b = cc in
    let t : same_bit c b ≡ true = ap (λ z. same_bit z b) e ∙ is_same b in
    let r = at_times xs j b k in
    rw t (omega (arith, r))
two_places (x ∷ xs) (suc i) zero b h k l = absurd (omega arith)
two_places (None ∷ xs) (suc i) (suc j) b h k l = two_places xs i j b h k (omega arith)
two_places (Some c ∷ xs) (suc i) (suc j) b h k l = let r = two_places xs i j b h k (omega arith) in omega (arith, r)

pub times_at : (xs : List (Option Bit)) (b : Bit) → 1 ≤ times xs b → (i : ℕ) × (get_or xs i None ≡ Some b)
unfolding times
times_at [] b h = absurd (omega arith)
times_at (None ∷ xs) b h = let r = times_at xs b h in (suc r.0, r.1)
times_at (Some c ∷ xs) b h = go (same_bit c b) refl (times_at xs b) h
  where
    go : (t : Bool) → same_bit c b ≡ t → (1 ≤ times xs b → (i : ℕ) × (get_or xs i None ≡ Some b)) → 1 ≤ cond t 1 0 + times xs b → (i : ℕ) × (get_or (Some c ∷ xs) i None ≡ Some b)
    go true e later h = (0, ap Some (same_is c b e))
    go false e later h = let r = later (omega arith) in (suc r.0, r.1)

pub times_twice : (xs : List (Option Bit)) (b : Bit) → 2 ≤ times xs b → (i : ℕ) × ((j : ℕ) × ((i < j) × ((get_or xs i None ≡ Some b) × (get_or xs j None ≡ Some b))))
unfolding times
times_twice [] b h = absurd (omega arith)
times_twice (None ∷ xs) b h = let r = times_twice xs b h in (suc r.0, (suc r.1.0, (omega (arith, r.1.1.0), (r.1.1.1.0, r.1.1.1.1))))
times_twice (Some c ∷ xs) b h = go (same_bit c b) refl (times_twice xs b) h
  where
    go : (t : Bool) → same_bit c b ≡ t → (2 ≤ times xs b → (i : ℕ) × ((j : ℕ) × ((i < j) × ((get_or xs i None ≡ Some b) × (get_or xs j None ≡ Some b)))))
        → 2 ≤ cond t 1 0 + times xs b → (i : ℕ) × ((j : ℕ) × ((i < j) × ((get_or (Some c ∷ xs) i None ≡ Some b) × (get_or (Some c ∷ xs) j None ≡ Some b))))
    go true e later h = let r = times_at xs b (omega arith) in (0, (suc r.0, (omega arith, (ap Some (same_is c b e), r.1))))
    go false e later h = let r = later (omega arith) in (suc r.0, (suc r.1.0, (omega (arith, r.1.1.0), (r.1.1.1.0, r.1.1.1.1))))
