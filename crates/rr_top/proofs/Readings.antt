-- What the reads of a told shelf give, they give once.
use Rattle.std.proofs.Common.{◌≡◌, ◌∙◌, ◌<◌, inl, inr, ℕ, List, [], ◌∷◌, length, refl, sym, ap, arith, Some, None}
use Rattle.rr_edge.specs.Held.{Held}
use Rattle.rr_effects.specs.Reads.{Gave, Given, AbsentAt, TooLongAt}

-- a name that is absent, a file that is too long, or all files
pub data Reading : Type 0 where
  missing : List ℕ → Reading
  long : ℕ → Reading
  given : List (List ℕ) → Reading

abbrev pub IsReading : Held → List (List ℕ × ℕ) → Reading → Type 0
IsReading held reads (missing name) = AbsentAt (Some held) reads name
IsReading held reads (long count) = TooLongAt (Some held) reads count
IsReading held reads (given files) = Given (Some held) reads files

module _ (held : Held) where
  absent_or_gave : (name bytes : List ℕ) (limit : ℕ) → held name ≡ None → Gave (Some held) name limit bytes → ⊥
  absent_or_gave name bytes limit none gave = let some = gave.held in cc

  absent_or_long : (name bytes : List ℕ) → held name ≡ None → held name ≡ Some bytes → ⊥
  absent_or_long name bytes none some = cc

  same_bytes : (name x y : List ℕ) → held name ≡ Some x → held name ≡ Some y → x ≡ y
  same_bytes name x y p q = cc

  long_or_gave : (name bytes x : List ℕ) (limit count : ℕ) → limit < count → held name ≡ Some x → length x ≡ count → Gave (Some held) name limit bytes → ⊥
  long_or_gave name bytes x limit count more some is gave =
      let same : length x ≡ length bytes = ap length (same_bytes name x bytes some gave.held) in
      omega (arith, more, is, same, gave.short)

  missing_missing : (reads : List (List ℕ × ℕ)) (a b : List ℕ) → AbsentAt (Some held) reads a → AbsentAt (Some held) reads b → a ≡ b
  missing_missing [] a b p q = absurd p
  missing_missing (read ∷ reads) a b (inl p) (inl q) = p.1 ∙ sym q.1
  missing_missing (read ∷ reads) a b (inl p) (inr q) = absurd (absent_or_gave read.0 q.0.0 read.1 p.0 q.0.1)
  missing_missing (read ∷ reads) a b (inr p) (inl q) = absurd (absent_or_gave read.0 p.0.0 read.1 q.0 p.0.1)
  missing_missing (read ∷ reads) a b (inr p) (inr q) = missing_missing reads a b p.1 q.1

  missing_long : (reads : List (List ℕ × ℕ)) (a : List ℕ) (n : ℕ) → AbsentAt (Some held) reads a → TooLongAt (Some held) reads n → ⊥
  missing_long [] a n p q = p
  missing_long (read ∷ reads) a n (inl p) (inl q) = absent_or_long read.0 q.1.0 p.0 q.1.1
  missing_long (read ∷ reads) a n (inl p) (inr q) = absent_or_gave read.0 q.0.0 read.1 p.0 q.0.1
  missing_long (read ∷ reads) a n (inr p) (inl q) = long_or_gave read.0 p.0.0 q.1.0 read.1 n q.0 q.1.1 q.1.2 p.0.1
  missing_long (read ∷ reads) a n (inr p) (inr q) = missing_long reads a n p.1 q.1

  missing_given : (reads : List (List ℕ × ℕ)) (a : List ℕ) (xs : List (List ℕ)) → AbsentAt (Some held) reads a → Given (Some held) reads xs → ⊥
  missing_given [] a xs p q = p
  missing_given (read ∷ reads) a [] p q = q
  missing_given (read ∷ reads) a (x ∷ xs) (inl p) q = absent_or_gave read.0 x read.1 p.0 q.0
  missing_given (read ∷ reads) a (x ∷ xs) (inr p) q = missing_given reads a xs p.1 q.1

  long_long : (reads : List (List ℕ × ℕ)) (n m : ℕ) → TooLongAt (Some held) reads n → TooLongAt (Some held) reads m → n ≡ m
  long_long [] n m p q = absurd p
  long_long (read ∷ reads) n m (inl p) (inl q) =
      let same : length p.1.0 ≡ length q.1.0 = ap length (same_bytes read.0 p.1.0 q.1.0 p.1.1 q.1.1) in
      sym p.1.2 ∙ same ∙ q.1.2
  long_long (read ∷ reads) n m (inl p) (inr q) = absurd (long_or_gave read.0 q.0.0 p.1.0 read.1 n p.0 p.1.1 p.1.2 q.0.1)
  long_long (read ∷ reads) n m (inr p) (inl q) = absurd (long_or_gave read.0 p.0.0 q.1.0 read.1 m q.0 q.1.1 q.1.2 p.0.1)
  long_long (read ∷ reads) n m (inr p) (inr q) = long_long reads n m p.1 q.1

  long_given : (reads : List (List ℕ × ℕ)) (n : ℕ) (xs : List (List ℕ)) → TooLongAt (Some held) reads n → Given (Some held) reads xs → ⊥
  long_given [] n xs p q = p
  long_given (read ∷ reads) n [] p q = q
  long_given (read ∷ reads) n (x ∷ xs) (inl p) q = long_or_gave read.0 x p.1.0 read.1 n p.0 p.1.1 p.1.2 q.0
  long_given (read ∷ reads) n (x ∷ xs) (inr p) q = long_given reads n xs p.1 q.1

  pub given_given : (reads : List (List ℕ × ℕ)) (xs ys : List (List ℕ)) → Given (Some held) reads xs → Given (Some held) reads ys → xs ≡ ys
  given_given [] [] [] p q = refl
  given_given [] [] (y ∷ ys) p q = absurd q
  given_given [] (x ∷ xs) ys p q = absurd p
  given_given (read ∷ reads) [] ys p q = absurd p
  given_given (read ∷ reads) (x ∷ xs) [] p q = absurd q
  given_given (read ∷ reads) (x ∷ xs) (y ∷ ys) p q =
      let first : x ≡ y = same_bytes read.0 x y p.0.held q.0.held in
      let rest : xs ≡ ys = given_given reads xs ys p.1 q.1 in
      cc

  pub one_reading : (reads : List (List ℕ × ℕ)) (r s : Reading) → IsReading held reads r → IsReading held reads s → r ≡ s
  one_reading reads (missing a) (missing b) p q = ap (λ (x : List ℕ). missing x) (missing_missing reads a b p q)
  one_reading reads (missing a) (long n) p q = absurd (missing_long reads a n p q)
  one_reading reads (missing a) (given xs) p q = absurd (missing_given reads a xs p q)
  one_reading reads (long n) (missing a) p q = absurd (missing_long reads a n q p)
  one_reading reads (long n) (long m) p q = ap (λ (x : ℕ). long x) (long_long reads n m p q)
  one_reading reads (long n) (given xs) p q = absurd (long_given reads n xs p q)
  one_reading reads (given xs) (missing a) p q = absurd (missing_given reads a xs q p)
  one_reading reads (given xs) (long n) p q = absurd (long_given reads n xs q p)
  one_reading reads (given xs) (given ys) p q = ap (λ (f : List (List ℕ)). given f) (given_given reads xs ys p q)
