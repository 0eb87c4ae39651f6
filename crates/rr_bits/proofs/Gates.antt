-- from the number of a list of bits to the list
use Rattle.std.proofs.Common.{◌≡◌, ℕ, ◌%◌, ◌^◌, ◌+◌, ◌-◌, ◌*◌, List, Bool, length, sym, ◌∙◌, ap}
use Rattle.rr_bits.specs.Words.{number, word, add, sub, mul}
use Rattle.rr_bits.proofs.Numbers.{word_number, word_mod}

pub word_from_number : (w n : ℕ) (zs : List Bool) → length zs ≡ w → number zs ≡ n % 2 ^ w → zs ≡ word w n
word_from_number w n zs l e = sym (word_number zs) ∙ ap (λ k. word k (number zs)) l ∙ ap (word w) e ∙ word_mod w n

pub sum_from_number : (xs ys zs : List Bool) → length zs ≡ length xs → number zs ≡ (number xs + number ys) % 2 ^ length xs → zs ≡ add xs ys
sum_from_number xs ys zs l e = word_from_number _ _ zs l e

pub difference_from_number : (xs ys zs : List Bool) → length zs ≡ length xs → number zs ≡ (number xs + (2 ^ length xs - number ys)) % 2 ^ length xs → zs ≡ sub xs ys
difference_from_number xs ys zs l e = word_from_number _ _ zs l e

pub product_from_number : (xs ys zs : List Bool) → length zs ≡ length xs → number zs ≡ (number xs * number ys) % 2 ^ length xs → zs ≡ mul xs ys
product_from_number xs ys zs l e = word_from_number _ _ zs l e

pub ruleset gates = (sum_from_number, difference_from_number, product_from_number)
