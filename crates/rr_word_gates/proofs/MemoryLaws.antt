-- which word of a memory an index names, where one word more is asked
use Rattle.std.proofs.Common.{◌≡◌, ℕ, ◌+◌, ◌<◌, ◌≤◌, ◌⊎◌, inl, inr, true, false, cond, nat_lt, Some, None, refl, sym, ◌∙◌, ap, arith, ℤ, pos, ◌-ℤ◌, int_lt, unsigned_abs}
use Rattle.std.specs.Ordering.{int_eq}
use Rattle.std.proofs.lemmas.Bool.Decides.{Decides-int_eq}
use Rattle.std.proofs.lemmas.Int.{ints}
use Rattle.std.proofs.lemmas.Bool.{cases_Bool, cases_lt, lt-ltb, le-ltb, both_ways}
use Rattle.rr_expr.specs.Memories.{word_at}
use Rattle.rr_expr.specs.Selects.{place}

-- the place of an index in the range of one index
place_from : (low : ℕ) (i : ℤ) → place (low, low) i ≡ i -ℤ pos low
place_from low i = rw (le-ltb low low (omega arith)) refl

low_enough : (low k : ℕ) (i : ℤ) → i -ℤ pos low ≡ pos k → int_lt i (pos low) ≡ false
low_enough low k i e = grind (arith, ints, e)

word_new : (low k : ℕ) (i : ℤ) → i -ℤ pos low ≡ pos k → word_at low (k + 1) i ≡ Some k
word_new low k i e = rw (low_enough low k i e, e, lt-ltb k (k + 1) (omega arith)) refl

word_before : (low k : ℕ) (i : ℤ) → i -ℤ pos low ≡ pos k → word_at low k i ≡ None
word_before low k i e = rw (low_enough low k i e, e, le-ltb k k (omega arith)) refl

above : (low : ℕ) (i : ℤ) → int_lt i (pos low) ≡ false → pos (unsigned_abs (i -ℤ pos low)) ≡ i -ℤ pos low
above low i h = grind (arith, ints, h)

word_same : (low k : ℕ) (i : ℤ) → (i -ℤ pos low ≡ pos k → ⊥) → word_at low (k + 1) i ≡ word_at low k i
word_same low k i n = elim (cases_Bool (int_lt i (pos low))) [
  | inl t ↦ rw t refl
  | inr t ↦ rw t (by (unsigned_abs (i -ℤ pos low)) (λ q. n (sym (above low i t) ∙ ap pos q)) (cases_lt (unsigned_abs (i -ℤ pos low)) k))
]
  where
    by : (d : ℕ) → (d ≡ k → ⊥) → ((d < k) ⊎ (k ≤ d)) → cond (nat_lt d (k + 1)) (Some d) None ≡ cond (nat_lt d k) (Some d) None
    by d m (inl l) = rw (lt-ltb d k l, lt-ltb d (k + 1) (omega arith)) refl
    by d m (inr l) = rw (le-ltb d k l, le-ltb d (k + 1) (omega (arith, l, m))) refl

-- of the next word: it is the one, and none before it is, or the one stays
pub record IsNext (low k : ℕ) (i : ℤ) : Type 0 where
  pub new : word_at low (k + 1) i ≡ Some k
  pub before : word_at low k i ≡ None

pub next_word : (low k : ℕ) (i at : ℤ) → at ≡ pos k → ((int_eq (place (low, low) i) at ≡ true) × IsNext low k i) ⊎ ((int_eq (place (low, low) i) at ≡ false) × (word_at low (k + 1) i ≡ word_at low k i))
next_word low k i at e = elim (cases_Bool (int_eq (place (low, low) i) at)) [
  | inl t ↦
      let r : i -ℤ pos low ≡ pos k = sym (place_from low i) ∙ (Decides-int_eq (place (low, low) i) at).0 t ∙ e in
      inl (t, record { new = word_new low k i r; before = word_before low k i r })
  | inr t ↦ inr (t, word_same low k i (λ r. both_ways (int_eq (place (low, low) i) at) t ((Decides-int_eq (place (low, low) i) at).1 (place_from low i ∙ r ∙ sym e))))
]

-- no word is asked

pub no_word : (low : ℕ) (i : ℤ) → word_at low 0 i ≡ None
no_word low i = elim (cases_Bool (int_lt i (pos low))) [
  | inl t ↦ rw t refl
  | inr t ↦ rw (t, le-ltb (unsigned_abs (i -ℤ pos low)) 0 (omega arith)) refl
]
