-- Cells of a table: what a text says of a column of some width.
use Rattle.std.specs.Prelude.{ℕ, ◌+◌, ◌-◌, ◌*◌, ◌^◌, ◌%◌, ◌<◌, ◌≤◌, ◌≡◌, Bool, true, false, not, ◌&&◌, ◌||◌, List, [], ◌∷◌, length, fold, drop, get_or, option_map, Option, Some, None, Result, Ok, Err, nat_eq, nat_lt, if◌then◌else◌}
use Rattle.rr_trace.specs.declared.cell.Base.{Base}
use Rattle.rr_trace.specs.declared.cell.Base.TheVariants.{Binary, Decimal, Hexadecimal}
use Rattle.rr_trace.specs.declared.cell.Cell.{Cell}
use Rattle.rr_trace.specs.declared.cell.Digit.{Digit}
use Rattle.rr_trace.specs.declared.cell.CellFault.{CellFault}
use Rattle.rr_trace.specs.declared.cell.CellFault.TheVariants.{Malformed, TooLarge}

abbrev pub radix : Base → ℕ
radix Binary = 2
radix Decimal = 10
radix Hexadecimal = 16

abbrev pub between : ℕ → ℕ → ℕ → Bool
between low high c = not (nat_lt c low) && not (nat_lt high c)

-- the value of a hexadecimal digit, of either case
abbrev pub digit_value : ℕ → Option ℕ
digit_value c =
    if between 48 57 c then Some (c - 48) else if between 97 102 c then Some (c - 87) else if between 65 70 c then Some (c - 55) else None

abbrev pub known_digit : ℕ → Option ℕ → Option Digit
known_digit r None = None
known_digit r (Some v) = if nat_lt v r then Some (record { value = v; unknown = 0 }) else None

-- an x stands for all bits of a digit
abbrev pub unknown_digit : Base → Option Digit
unknown_digit Binary = Some (record { value = 0; unknown = 1 })
unknown_digit Decimal = None
unknown_digit Hexadecimal = Some (record { value = 0; unknown = 15 })

abbrev pub is_x : ℕ → Bool
is_x c = nat_eq c 120 || nat_eq c 88

abbrev pub digit : Base → ℕ → Option Digit
digit base c = if is_x c then unknown_digit base else known_digit (radix base) (digit_value c)

-- a `_` between digits, which decimal numbers do not have
abbrev pub is_separator : Base → ℕ → Bool
is_separator Binary c = nat_eq c 95
is_separator Decimal c = false
is_separator Hexadecimal c = nat_eq c 95

-- a numeral: its value where its unknown bits are 0, and the numeral of its unknown bits
abbrev pub Numeral : Type 0
Numeral = ℕ × ℕ

abbrev pub shifted : ℕ → Numeral → Option Digit → Option Numeral
shifted r n None = None
shifted r n (Some d) = Some (n.0 * r + d.value, n.1 * r + d.unknown)

abbrev pub with_byte : Base → Option Numeral → ℕ → Option Numeral
with_byte base None c = None
with_byte base (Some n) c = if is_separator base c then Some n else shifted (radix base) n (digit base c)

-- a digit stands at both ends
abbrev pub is_framed : List ℕ → Bool
is_framed t = not (nat_eq (length t) 0) && (not (nat_eq (get_or t 0 95) 95) && not (nat_eq (get_or t (length t - 1) 95) 95))

-- the numeral that a text writes in a base, highest digit first
abbrev pub numeral : Base → List ℕ → Option Numeral
numeral base t = if is_framed t then fold (with_byte base) (Some (0, 0)) t else None

-- what a text writes: bits of which none is known, or a numeral
pub data Written : Type 0 where
  Unknown : Written
  Number : Numeral → Written

abbrev pub is_unknown : List ℕ → Bool
is_unknown t = nat_eq (length t) 0 || (nat_eq (length t) 1 && is_x (get_or t 0 0))

abbrev pub starts : ℕ → List ℕ → Bool
starts c t = not (nat_lt (length t) 2) && (nat_eq (get_or t 0 0) 48 && nat_eq (get_or t 1 0) c)

-- `0b` begins a binary and `0x` a hexadecimal numeral
abbrev pub written : List ℕ → Option Written
written t =
    if is_unknown t then Some Unknown else
    if starts 98 t then option_map Number (numeral Binary (drop 2 t)) else
    if starts 120 t then option_map Number (numeral Hexadecimal (drop 2 t)) else
    option_map Number (numeral Decimal t)

abbrev pub unknown_cell : Cell
unknown_cell = record { value = 0; known = 0 }

-- the bits below the width: those that no unknown digit takes are known
abbrev pub cell_of_numeral : ℕ → Numeral → Cell
cell_of_numeral w n = record { value = n.0; known = 2 ^ w - 1 - n.1 % 2 ^ w }

-- the numeral fits exactly where no one stands at or above the width
abbrev pub fitted : ℕ → Option Written → Result Cell CellFault
fitted w None = Err Malformed
fitted w (Some Unknown) = Ok unknown_cell
fitted w (Some (Number n)) = if nat_lt n.0 (2 ^ w) then Ok (cell_of_numeral w n) else Err TooLarge

abbrev pub cell_of : ℕ → List ℕ → Result Cell CellFault
cell_of w t = fitted w (written t)
