-- Numbers of the lowest bits of a word.
use Rattle.std.proofs.Common.{ℕ, Bool, List, length, ◌+◌, ◌<◌, ◌^◌, pos, subst}
use Rattle.rr_bits.specs.Words.{number, select, bit_in}
use Rattle.rr_bits.proofs.Numbers.{number-lt}
use Rattle.rr_bits.proofs.Places.{length_tabulate}

pub lowest_fit : (xs : List Bool) (w : ℕ) → number (select xs (pos 0) w) < 2 ^ w
lowest_fit xs w = subst (λ n. number (select xs (pos 0) w) < 2 ^ n) (length_tabulate w _) (number-lt (select xs (pos 0) w))
