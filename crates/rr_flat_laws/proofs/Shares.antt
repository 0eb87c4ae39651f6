-- The parts of a list that belong to each number.
use Rattle.std.proofs.Common.{◌≡◌, ◌∙◌, ap₂, inl, inr, ℕ, zero, suc, ◌+◌, ◌<◌, ◌≤◌, Bool, true, false, List, [], ◌∷◌, ◌++◌, length, get_or, refl, subst, arith}
use Rattle.std.specs.List.{AllByRecursion, filter, flat_map}
use Rattle.std.proofs.lemmas.Bool.{cases_lt}
use Rattle.std.proofs.lemmas.List.{append-nil}
use Rattle.std.proofs.lemmas.List.Elements.{filter-append}
use Rattle.rr_flatten.proofs.HeadOf.{all_append}

pub filter_all : {X : Type 0} (test : X → Bool) (xs : List X) → AllByRecursion (λ x. test x ≡ true) xs → filter test xs ≡ xs
filter_all test [] h = refl
filter_all test (x ∷ xs) h = rw (h.0, filter_all test xs h.1) refl

pub filter_nothing : {X : Type 0} (test : X → Bool) (xs : List X) → AllByRecursion (λ x. test x ≡ false) xs → filter test xs ≡ []
filter_nothing test [] h = refl
filter_nothing test (x ∷ xs) h = rw h.0 (filter_nothing test xs h.1)

pub filter_both : {X : Type 0} (test : X → Bool) (xs ys us vs : List X) → filter test xs ≡ us → filter test ys ≡ vs → filter test (xs ++ ys) ≡ us ++ vs
filter_both test xs ys us vs a b = filter-append test xs ys ∙ ap₂ (λ a b. a ++ b) a b

pub all_flat : {X Y : Type 0} (P : Y → Type 0) (f : X → List Y) (xs : List X) → AllByRecursion (λ x. AllByRecursion P (f x)) xs → AllByRecursion P (flat_map f xs)
all_flat P f [] h = tt
all_flat P f (x ∷ xs) h = all_append P (f x) (flat_map f xs) h.0 (all_flat P f xs h.1)

-- of a list that was made while the numbers went from low to high: number i has one part, each that is new its own, and
-- the others none
pub record Share {X : Type 0} (test : ℕ → X → Bool) (full : ℕ → List X) (i low high : ℕ) (xs part : List X) : Type 0 where
  pub here : filter (test i) xs ≡ part
  pub before : (j : ℕ) → j < low → (j ≡ i → ⊥) → filter (test j) xs ≡ []
  pub new : (j : ℕ) → low ≤ j → j < high → filter (test j) xs ≡ full j
  pub later : (j : ℕ) → high ≤ j → filter (test j) xs ≡ []

pub share_none : {X : Type 0} (test : ℕ → X → Bool) (full : ℕ → List X) (i low high : ℕ) → high ≡ low → Share test full i low high [] []
share_none test full i low high e = record { here = refl; before = λ j l d. refl; new = λ j l m. absurd (omega (arith, l, m, e)); later = λ j l. refl }

pub share_twice : {X : Type 0} (test : ℕ → X → Bool) (full : ℕ → List X) (i low mid high : ℕ) (xs ys a b : List X) → i < low → low ≤ mid → mid ≤ high → Share test full i low mid xs a → Share test full i mid high ys b →
    Share test full i low high (xs ++ ys) (a ++ b)
share_twice test full i low mid high xs ys a b il lm mh x y = record {
  here = filter_both (test i) xs ys a b x.here y.here;
  before = λ j l d. filter_both (test j) xs ys [] [] (x.before j l d) (y.before j (omega (arith, l, lm)) d);
  new = λ j l m. elim (cases_lt j mid) [
    | inl k ↦ filter_both (test j) xs ys (full j) [] (x.new j l k) (y.before j k (λ e. omega (arith, e, il, l))) ∙ append-nil (full j)
    | inr k ↦ filter_both (test j) xs ys [] (full j) (x.later j k) (y.new j k m)
  ];
  later = λ j l. filter_both (test j) xs ys [] [] (x.later j (omega (arith, l, mh))) (y.later j l);
}

-- each of a list by its number, where the first has number n
abbrev pub Numbers : {X : Type 0} → (ℕ → X → Type 0) → ℕ → List X → Type 0
Numbers P n [] = Unit {0}
Numbers P n (x ∷ xs) = P n x × Numbers P (n + 1) xs

pub numbers_twice : {X : Type 0} (P : ℕ → X → Type 0) (n m : ℕ) (xs ys : List X) → m ≡ n + length xs → Numbers P n xs → Numbers P m ys → Numbers P n (xs ++ ys)
numbers_twice P n m [] ys e p q = subst (λ (k : ℕ). Numbers P k ys) (omega (arith, e)) q
numbers_twice P n m (x ∷ xs) ys e p q = (p.0, numbers_twice P (n + 1) m xs ys (omega (arith, e)) p.1 q)

pub numbers_weaker : {X : Type 0} (P Q : ℕ → X → Type 0) (n : ℕ) (xs : List X) → ((k : ℕ) (x : X) → n ≤ k → k < n + length xs → P k x → Q k x) → Numbers P n xs → Numbers Q n xs
numbers_weaker P Q n [] h p = tt
numbers_weaker P Q n (x ∷ xs) h p = (h n x (omega arith) (omega arith) p.0, numbers_weaker P Q (n + 1) xs (λ k y l m. h k y (omega (arith, l)) (omega (arith, m))) p.1)

pub numbers_at : {X : Type 0} (P : ℕ → X → Type 0) (n : ℕ) (xs : List X) (d : X) → Numbers P n xs → (j : ℕ) → j < length xs → P (n + j) (get_or xs j d)
numbers_at P n [] d p j l = absurd (omega (arith, l))
numbers_at P n (x ∷ xs) d p zero l = subst (λ (k : ℕ). P k x) (omega arith) p.0
numbers_at P n (x ∷ xs) d p (suc j) l = subst (λ (k : ℕ). P k (get_or xs j d)) (omega arith) (numbers_at P (n + 1) xs d p.1 j (omega (arith, l)))
