-- words and the numbers that they write
use Rattle.std.proofs.Common.{◌≡◌, ℕ, suc, ◌+◌, ◌-◌, ◌*◌, ◌/◌, ◌%◌, ◌^◌, ◌<◌, ◌≤◌, Bool, true, false, List, [], ◌∷◌, ◌++◌, length, refl, sym, ◌∙◌, ap, arith}
use Rattle.std.proofs.Math.Nat.{mod-eq_of_lt}
use Rattle.rr_bits.specs.Words.{number, word}
use Rattle.rr_bits.specs.Fields.{pow_next, length_word, number_word}
use Rattle.std.proofs.Math.Pow.{mod-mod-pow}

pub number-lt : (xs : List Bool) → number xs < 2 ^ length xs
unfolding number
number-lt [] = omega arith
number-lt (true ∷ xs) =
    let h = number-lt xs in
    let e : 2 ^ suc (length xs) ≡ 2 * 2 ^ length xs = pow_next (length xs) in
    omega arith
number-lt (false ∷ xs) =
    let h = number-lt xs in
    let e : 2 ^ suc (length xs) ≡ 2 * 2 ^ length xs = pow_next (length xs) in
    omega arith

pub word_number : (xs : List Bool) → word (length xs) (number xs) ≡ xs
unfolding word number
word_number [] = refl
word_number (true ∷ xs) =
    let m : (1 + 2 * number xs) % 2 ≡ 1 = omega arith in
    let d : (1 + 2 * number xs) / 2 ≡ number xs = omega arith in
    rw (m, d, word_number xs) refl
word_number (false ∷ xs) =
    let m : (0 + 2 * number xs) % 2 ≡ 0 = omega arith in
    let d : (0 + 2 * number xs) / 2 ≡ number xs = omega arith in
    rw (m, d, word_number xs) refl

-- a number and its remainder have one word
pub word_mod : (w n : ℕ) → word w (n % 2 ^ w) ≡ word w n
word_mod w n =
    let e = word_number (word w n) in
    rw (length_word, number_word) at e

pub word_same : (w m n : ℕ) → m % 2 ^ w ≡ n % 2 ^ w → word w m ≡ word w n
word_same w m n e = sym (word_mod w m) ∙ ap (word w) e ∙ word_mod w n

-- arithmetic modulo a greater power serves each narrower word
word_wide : (w k n : ℕ) → w ≤ k → word w (n % 2 ^ k) ≡ word w n
word_wide w k n h =
    let e : k ≡ (k - w) + w = omega arith in
    word_same w (n % 2 ^ k) n (rw e (mod-mod-pow n (k - w) w))

pub word_wrapped : (w n : ℕ) → w ≤ 128 → word w (n % 2 ^ 128) ≡ word w n
word_wrapped w n h = word_wide w 128 n h

pub number_small : (w n : ℕ) → n < 2 ^ w → number (word w n) ≡ n
number_small w n h = number_word w n ∙ mod-eq_of_lt h

pub number_append : (xs ys : List Bool) → number (xs ++ ys) ≡ number ys * 2 ^ length xs + number xs
unfolding number
number_append [] ys = omega arith
number_append (x ∷ xs) ys =
    let h = number_append xs ys in
    let e : number ys * (2 * 2 ^ length xs) ≡ 2 * (number ys * 2 ^ length xs) = omega arith in
    rw (h, pow_next (length xs), e) (omega arith)
