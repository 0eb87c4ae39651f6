-- words: lists of truth values, lowest first (IEEE 1364-2005 sections 4.3, 5.1 and 5.4)
use Rattle.std.specs.Prelude.{ℕ, zero, suc, ◌+◌, ◌-◌, ◌*◌, ◌/◌, ◌%◌, ◌^◌, ◌==◌, Bool, false, cond, not, ◌&&◌, List, [], ◌∷◌, length, get_or, map, ℤ, pos, negsuc, ◌+ℤ◌, ◌-ℤ◌, int_lt, nat_lt, ◌||◌, int_div, int_rem}
use Rattle.std.specs.List.{range_with_len}

abbrev pub bit : Bool → ℕ
bit b = cond b 1 0

-- the number that a word writes
unfoldable pub number : List Bool → ℕ
number [] = 0
number (b ∷ bs) = bit b + 2 * number bs

-- the lowest w bits of a number
unfoldable pub word : ℕ → ℕ → List Bool
word zero n = []
word (suc w) n = (n % 2 == 1) ∷ word w (n / 2)

-- the word whose bit i is f i
unfoldable pub tabulate : ℕ → (ℕ → Bool) → List Bool
tabulate w f = map f (range_with_len 0 w)

-- the highest bit
abbrev pub top : List Bool → Bool
top xs = get_or xs (length xs - 1) false

-- the number that a word writes in two's complement
abbrev pub integer : List Bool → ℤ
integer xs = cond (top xs) (pos (number xs) -ℤ pos (2 ^ length xs)) (pos (number xs))

-- cut from the top, or filled with the top bit where signed, else with 0 (section 5.4.1)
abbrev pub extend : ℕ → Bool → List Bool → List Bool
extend w signed xs = tabulate w (λ i. get_or xs i (signed && top xs))

-- arithmetic modulo 2 to the width (section 5.1.5)
abbrev pub add : List Bool → List Bool → List Bool
add xs ys = word (length xs) (number xs + number ys)

abbrev pub sub : List Bool → List Bool → List Bool
sub xs ys = word (length xs) (number xs + (2 ^ length xs - number ys))

abbrev pub mul : List Bool → List Bool → List Bool
mul xs ys = word (length xs) (number xs * number ys)

-- each bit at a place by places higher, with 0 from below (section 5.1.12)
abbrev pub shl : List Bool → ℕ → List Bool
shl xs by = tabulate (length xs) (λ i. cond (nat_lt i by) false (get_or xs (i - by) false))

-- each bit at a place by places lower, with 0 from above (section 5.1.12)
abbrev pub shr : List Bool → ℕ → List Bool
shr xs by = tabulate (length xs) (λ i. get_or xs (i + by) false)

-- each bit at a place by places lower, with the top bit from above (section 5.1.12)
abbrev pub sar : List Bool → ℕ → List Bool
sar xs by = tabulate (length xs) (λ i. get_or xs (i + by) (top xs))

-- order of the numbers, signed or unsigned (section 5.1.7)
abbrev pub less : Bool → List Bool → List Bool → Bool
less signed xs ys = cond signed (int_lt (integer xs) (integer ys)) (nat_lt (number xs) (number ys))

-- the bit at a place, false where there is none
abbrev pub bit_in : List Bool → ℤ → Bool
bit_in xs (pos n) = get_or xs n false
bit_in xs (negsuc n) = false

-- w bits from a place up, 0 where there is none (section 5.2.1)
abbrev pub select : List Bool → ℤ → ℕ → List Bool
select xs from w = tabulate w (λ i. bit_in xs (from +ℤ pos i))

-- bit by bit (section 5.1.10)
abbrev pub inverted : List Bool → List Bool
inverted xs = tabulate (length xs) (λ i. not (get_or xs i false))

abbrev pub both : List Bool → List Bool → List Bool
both xs ys = tabulate (length xs) (λ i. get_or xs i false && get_or ys i false)

abbrev pub either : List Bool → List Bool → List Bool
either xs ys = tabulate (length xs) (λ i. get_or xs i false || get_or ys i false)

abbrev pub one_of : List Bool → List Bool → List Bool
one_of xs ys = tabulate (length xs) (λ i. cond (get_or ys i false) (not (get_or xs i false)) (get_or xs i false))

-- the negation modulo 2 to the width
abbrev pub negated : List Bool → List Bool
negated xs = word (length xs) (2 ^ length xs - number xs)

-- the number that a word writes, in two's complement where signed
abbrev pub reading : Bool → List Bool → ℤ
reading signed xs = cond (signed && top xs) (pos (number xs) -ℤ pos (2 ^ length xs)) (pos (number xs))

-- the word of a number, in two's complement
abbrev pub of_integer : ℕ → ℤ → List Bool
of_integer w (pos n) = word w n
of_integer w (negsuc n) = negated (word w (suc n))

-- the quotient is cut toward zero, and is 0 where the divisor is
abbrev pub quotient : Bool → List Bool → List Bool → List Bool
quotient signed xs ys = cond (number ys == 0) (word (length xs) 0) (of_integer (length xs) (int_div (reading signed xs) (reading signed ys)))

-- the remainder has the sign of the first, and is 0 where the divisor is
abbrev pub remainder : Bool → List Bool → List Bool → List Bool
remainder signed xs ys = cond (number ys == 0) (word (length xs) 0) (of_integer (length xs) (int_rem (reading signed xs) (reading signed ys)))

-- the power modulo 2 to the width
abbrev pub power : List Bool → ℕ → List Bool
power xs n = word (length xs) (number xs ^ n)

-- no bit is one
abbrev pub is_zero : List Bool → Bool
is_zero xs = number xs == 0
