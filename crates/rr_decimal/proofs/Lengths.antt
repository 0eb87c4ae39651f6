-- the number of digits of a number
use Rattle.std.proofs.Common.{◌≡◌, ◌∙◌, ℕ, zero, suc, ◌+◌, ◌*◌, ◌/◌, ◌%◌, ◌^◌, ◌<◌, ◌≤◌, [], ◌∷◌, ap, arith, length}
use Rattle.std.specs.Prelude.{decimal}
use Rattle.std.proofs.lemmas.Fmt.{decimal_digit, decimal_step}
use Rattle.std.proofs.lemmas.List.{length_push}

-- a number from 10 to the power k on, and below the next power of 10, has k + 1 digits
pub length_decimal : (k n : ℕ) → 10 ^ k ≤ n → n < 10 * 10 ^ k → n < 2 ^ 64 → length (decimal n) ≡ k + 1
length_decimal zero n low high small = ap length (decimal_digit n (omega arith))
length_decimal (suc k) n low high small =
    let before = length_decimal k (n / 10) (omega arith) (omega arith) (omega arith) in
    ap length (decimal_step n (omega arith) small) ∙ length_push (decimal (n / 10)) (48 + n % 10) ∙ omega (arith, before)
