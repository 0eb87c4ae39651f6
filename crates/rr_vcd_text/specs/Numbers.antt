-- Decimal numbers below 2^64, with any zeros in front.
use Rattle.std.specs.Prelude.{ℕ, ◌+◌, ◌-◌, ◌*◌, ◌^◌, List, [], ◌∷◌, length, Bool, ◌&&◌, Option, Some, None, nat_le, nat_lt, if◌then◌else◌}
use Rattle.std.specs.List.{list_all}

abbrev pub is_digit : ℕ → Bool
is_digit b = nat_le 48 b && nat_le b 57

-- the number that digits write behind those of another
unfoldable pub decimal_from : ℕ → List ℕ → ℕ
decimal_from n [] = n
decimal_from n (b ∷ bs) = decimal_from (n * 10 + (b - 48)) bs

abbrev pub decimal_of : List ℕ → ℕ
decimal_of text = decimal_from 0 text

-- the number of a text that is one digit or more
abbrev pub number : List ℕ → Option ℕ
number text = if nat_lt 0 (length text) && (list_all is_digit text && nat_lt (decimal_of text) (2 ^ 64)) then Some (decimal_of text) else None
