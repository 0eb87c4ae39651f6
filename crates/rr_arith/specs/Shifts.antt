-- shifts to the right with any bit from above, and the bit at a place
use Rattle.std.specs.Prelude.{ℕ, ◌+◌, Bool, List, length, get_or}
use Rattle.rr_bits.specs.Words.{tabulate}

-- each bit at a place by places lower, with this bit from above (IEEE 1364-2005 section 5.1.12):
-- the logical shift has 0 there, and the arithmetic one the top bit
abbrev pub shift_filled : List Bool → ℕ → Bool → List Bool
shift_filled xs by fill = tabulate (length xs) (λ i. get_or xs (i + by) fill)
