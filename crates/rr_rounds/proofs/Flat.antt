-- the first of some lists, one behind another
use Rattle.std.proofs.Common.{◌≡◌, ◌⊎◌, inl, inr, ℕ, suc, zero, ◌+◌, ◌-◌, ◌<◌, ◌≤◌, List, [], ◌++◌, length, get_or, take, sym, ◌∙◌, ap, subst, arith}
use Rattle.std.specs.Prelude.{Contains}
use Rattle.std.proofs.Math.Seq.{take-append-add}
use Rattle.std.proofs.lemmas.Bool.{cases_lt, cases_eq}
use Rattle.std.proofs.lemmas.List.{append-nil, append_assoc, length-append, get_or_append_left, get_or-append-add, take-append-le}
use Rattle.std.proofs.lemmas.List.Elements.{Contains-append_left, Contains-append_right}
use Rattle.rr_rounds.specs.Joined.{flat}

pub flat_more : {X : Type 0} (f : ℕ → List X) (n : ℕ) → flat (n + 1) f ≡ flat n f ++ f n
flat_more f n = let one : n + 1 ≡ suc n = omega arith in ap (λ k. flat k f) one

-- in which of the lists a place is
pub record Found {X : Type 0} (f : ℕ → List X) (n p : ℕ) : Type 0 where
  pub index : ℕ
  pub offset : ℕ
  pub low : index < n
  pub inside : offset < length (f index)
  pub is : p ≡ length (flat index f) + offset

pub found : {X : Type 0} (f : ℕ → List X) (n p : ℕ) → p < length (flat n f) → Found f n p
found f zero p h = absurd (omega arith)
found f (suc n) p h = by_cases (found f n p) (cases_lt p (length (flat n f)))
  where
    by_cases : (p < length (flat n f) → Found f n p) → ((p < length (flat n f)) ⊎ (length (flat n f) ≤ p)) → Found f (suc n) p
    by_cases old (inl i) = let w = old i in record { index = w.index; offset = w.offset; low = omega (arith, w.low); inside = w.inside; is = w.is }
    by_cases old (inr i) = record { index = n; offset = p - length (flat n f); low = omega arith; inside = omega (arith, length-append (flat n f) (f n)); is = omega arith }

-- a list, what stands before it and what stands behind it
pub flat_split : {X : Type 0} (f : ℕ → List X) (i n : ℕ) → i < n → (rest : List X) × (flat n f ≡ (flat i f ++ f i) ++ rest)
flat_split f i zero h = absurd (omega arith)
flat_split f i (suc n) h = by_cases (flat_split f i n) (cases_eq i n)
  where
    by_cases : (i < n → (rest : List _) × (flat n f ≡ (flat i f ++ f i) ++ rest)) → ((i ≡ n) ⊎ (i ≡ n → ⊥)) → (rest : List _) × (flat (suc n) f ≡ (flat i f ++ f i) ++ rest)
    by_cases old (inl e) = ([], subst (λ k. flat (suc n) f ≡ (flat k f ++ f k) ++ []) (sym e) (sym (append-nil (flat n f ++ f n))))
    by_cases old (inr ne) = let w = old (omega (arith, ne)) in (w.0 ++ f n, ap (λ x. x ++ f n) w.1 ∙ append_assoc (flat i f ++ f i) w.0 (f n))

module _ {X : Type 0} (f : ℕ → List X) (n i : ℕ) (h : i < n) where
  pub get_or-flat : (q : ℕ) (d : X) → q < length (f i) → get_or (flat n f) (length (flat i f) + q) d ≡ get_or (f i) q d
  get_or-flat q d l =
      let w = flat_split f i n h in
      let inside : length (flat i f) + q < length (flat i f ++ f i) = omega (arith, length-append (flat i f) (f i)) in
      ap (λ x. get_or x (length (flat i f) + q) d) w.1
      ∙ get_or_append_left (flat i f ++ f i) w.0 d (length (flat i f) + q) inside
      ∙ get_or-append-add (flat i f) (f i) q d

  pub take-flat : (q : ℕ) → q ≤ length (f i) → take (length (flat i f) + q) (flat n f) ≡ flat i f ++ take q (f i)
  take-flat q l =
      let w = flat_split f i n h in
      let inside : length (flat i f) + q ≤ length (flat i f ++ f i) = omega (arith, length-append (flat i f) (f i)) in
      ap (take (length (flat i f) + q)) w.1
      ∙ take-append-le (length (flat i f) + q) (flat i f ++ f i) w.0 inside
      ∙ take-append-add (flat i f) (f i) q

  pub Contains-flat : (x : X) → Contains (f i) x → Contains (flat n f) x
  Contains-flat x c =
      let w = flat_split f i n h in
      subst (λ xs. Contains xs x) (sym w.1) (Contains-append_left (flat i f ++ f i) w.0 x (Contains-append_right (flat i f) (f i) x c))
