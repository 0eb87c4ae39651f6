-- a word gives back its width and its number
use Rattle.std.proofs.Common.{◌≡◌, ℕ, zero, suc, ◌+◌, ◌*◌, ◌/◌, ◌%◌, ◌^◌, ◌<◌, ◌==◌, length, refl, sym, ◌∙◌, ap, arith, ◌⊎◌, inl, inr}
use Rattle.std.proofs.lemmas.Bool.{eq-eqb, ne_eqb, cases_eq}
use Rattle.std.proofs.lemmas.Nat.{pow_pos}
use Rattle.std.proofs.Math.Nat.{add-mul-mod_self_left, mod-eq_of_lt}
use native.Mathlib.Numerals.{unary_clauses}
use Rattle.rr_bits.specs.Words.{bit, number, word}

pub pow_next : (k : ℕ) → 2 ^ suc k ≡ 2 * 2 ^ k
pow_next k = simp unary_clauses (omega arith)

pub length_word : (w n : ℕ) → length (word w n) ≡ w
unfolding word
length_word zero n = refl
length_word (suc w) n = ap suc (length_word w (n / 2))

pub bit_odd : (n : ℕ) → bit (n % 2 == 1) ≡ n % 2
bit_odd n = by_cases (cases_eq (n % 2) 1)
  where
    by_cases : ((n % 2 ≡ 1) ⊎ (n % 2 ≡ 1 → ⊥)) → bit (n % 2 == 1) ≡ n % 2
    by_cases (inl e) = rw (eq-eqb (n % 2) 1 e) (omega arith)
    by_cases (inr e) = rw (ne_eqb (n % 2) 1 e) (omega arith)

-- the low bit and the rest, modulo twice p
mod_twice : (n p : ℕ) → 0 < p → n % 2 + 2 * ((n / 2) % p) ≡ n % (2 * p)
mod_twice n p h =
    let a : n ≡ (n % 2 + 2 * ((n / 2) % p)) + 2 * p * (n / 2 / p) =
    let q : p * (n / 2 / p) + (n / 2) % p ≡ n / 2 = omega arith in
    omega arith in
    let s : n % 2 + 2 * ((n / 2) % p) < 2 * p = let r : (n / 2) % p < p = omega arith in omega arith in
    sym (ap (λ k. k % (2 * p)) a ∙ add-mul-mod_self_left (n % 2 + 2 * ((n / 2) % p)) (2 * p) (n / 2 / p) ∙ mod-eq_of_lt s)

pub number_word : (w n : ℕ) → number (word w n) ≡ n % 2 ^ w
unfolding word number
number_word zero n = omega arith
number_word (suc w) n =
    let h = number_word w (n / 2) in
    let m = mod_twice n (2 ^ w) (pow_pos w) in
    rw (h, bit_odd n, pow_next w) m

-- what is made of the fields is made of a word's length and number
pub rebuilt : {A : Type 0} (f : ℕ → ℕ → A) (w n : ℕ) → n < 2 ^ w → f (length (word w n)) (number (word w n)) ≡ f w n
rebuilt f w n h = ap (λ k. f k (number (word w n))) (length_word w n) ∙ ap (f w) (number_word w n ∙ mod-eq_of_lt h)
