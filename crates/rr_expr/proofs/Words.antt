-- reductions of words
use Rattle.std.proofs.Common.{◌≡◌, ℕ, zero, suc, ◌+◌, ◌-◌, ◌*◌, ◌^◌, ◌/◌, ◌<◌, ◌≤◌, nat_eq, Bool, true, false, cond, not, ◌&&◌, List, [], ◌∷◌, length, get_or, take, refl, sym, ◌∙◌, arith, ◌⊎◌, inl, inr}
use Rattle.std.proofs.lemmas.Bool.{eq-eqb, ne_eqb, cases_eq}
use Rattle.std.specs.Bool.{beq}
use Rattle.std.proofs.lemmas.Nat.{pow_pos}
use mir.Val.{bool_byte}
use Rattle.rr_bits.specs.Words.{number, word, bit}
use Rattle.rr_bits.specs.Fields.{pow_next}
use Rattle.rr_bits.proofs.Numbers.{number-lt}
use Rattle.rr_bits.proofs.Operators.{mask_is}
use Rattle.std.proofs.lemmas.List.{get_or_past}
use Rattle.rr_expr.specs.declared.operators.Infix.TheVariants.{Either}
use Rattle.rr_expr.specs.Operators.{every, parity, infixes}

pub one_place : (b : Bool) → word 1 (bool_byte b) ≡ b ∷ []
unfolding word
one_place true = refl
one_place false = refl

full_step : (b e : Bool) (n m : ℕ) → 0 < m → n < m → nat_eq n (m - 1) ≡ e → nat_eq (bit b + 2 * n) (2 * m - 1) ≡ (b && e)
full_step true e n m p l h = by_cases (cases_eq n (m - 1))
  where
    by_cases : ((n ≡ m - 1) ⊎ (n ≡ m - 1 → ⊥)) → nat_eq (1 + 2 * n) (2 * m - 1) ≡ e
    by_cases (inl q) = eq-eqb (1 + 2 * n) (2 * m - 1) (omega arith) ∙ (sym (eq-eqb n (m - 1) q) ∙ h)
    by_cases (inr q) = ne_eqb (1 + 2 * n) (2 * m - 1) (λ r. q (omega arith)) ∙ (sym (ne_eqb n (m - 1) q) ∙ h)
full_step false e n m p l h = ne_eqb (0 + 2 * n) (2 * m - 1) (λ r. omega arith)

pub full_is : (xs : List Bool) → nat_eq (number xs) (2 ^ length xs - 1) ≡ every xs
unfolding number every
full_is [] = refl
full_is (b ∷ bs) = rw (pow_next (length bs)) (full_step b (every bs) (number bs) (2 ^ length bs) (pow_pos (length bs)) (number-lt bs) (full_is bs))

pub full_mask : (xs : List Bool) → 1 ≤ length xs → length xs ≤ 128 → nat_eq (number xs) ((2 ^ 128 - 1) / 2 ^ (128 - length xs)) ≡ every xs
full_mask xs a b = rw (mask_is (length xs) a b) (full_is xs)

parity_step : (x p g : Bool) → cond x (not (not (beq p g))) (not (beq p g)) ≡ not (beq (cond x (not p) p) g)
parity_step true true true = refl
parity_step true true false = refl
parity_step true false true = refl
parity_step true false false = refl
parity_step false true true = refl
parity_step false true false = refl
parity_step false false true = refl
parity_step false false false = refl

parity_one : (x : Bool) → cond x (not false) false ≡ not (beq false x)
parity_one true = refl
parity_one false = refl

pub parity_next : (xs : List Bool) (i : ℕ) → i < length xs → parity (take (i + 1) xs) ≡ not (beq (parity (take i xs)) (get_or xs i false))
unfolding parity
parity_next [] i h = absurd (omega arith)
parity_next (x ∷ xs) zero h = parity_one x
parity_next (x ∷ xs) (suc i) h =
    let n : suc i + 1 ≡ suc (i + 1) = omega arith in
    rw (n, parity_next xs i (omega arith)) (parity_step x (parity (take i xs)) (get_or xs i false))

pub parity_none : parity [] ≡ false
unfolding parity
parity_none = refl

pub no_infix : (m : ℕ) → 44 < m → Either ≡ get_or infixes m Either
no_infix m h = sym (get_or_past infixes m Either h)
