-- the widths of words that operations make
use Rattle.std.proofs.Common.{◌≡◌, ℕ, Bool, cond, not, ◌&&◌, List, false, length, get_or}
use Rattle.rr_bits.specs.Words.{extend, top, inverted, one_of}
use Rattle.rr_bits.proofs.Places.{length_tabulate}

pub length_extend : (w : ℕ) (signed : Bool) (xs : List Bool) → length (extend w signed xs) ≡ w
length_extend w signed xs = length_tabulate w (λ i. get_or xs i (signed && top xs))

pub length_inverted : (xs : List Bool) → length (inverted xs) ≡ length xs
length_inverted xs = length_tabulate (length xs) (λ i. not (get_or xs i false))

pub length_one_of : (xs ys : List Bool) → length (one_of xs ys) ≡ length xs
length_one_of xs ys = length_tabulate (length xs) (λ i. cond (get_or ys i false) (not (get_or xs i false)) (get_or xs i false))
