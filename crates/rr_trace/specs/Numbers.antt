-- What the numbers of 128 bits that read a numeral stand for.
use Rattle.std.specs.Prelude.{ℕ, ◌^◌, ◌%◌, ◌≤◌, ◌≡◌, Option, Some, None}
use Rattle.rr_trace.specs.Cells as cells
use Rattle.rr_trace.specs.declared.cell.Numeral.{Numeral}
use Rattle.rr_trace.specs.declared.cell.Written.{Written}
use Rattle.rr_trace.specs.declared.cell.Written.TheVariants.{Unknown, Number}

-- the value, which is none from 2^128 on
abbrev pub IsValue : Option ℕ → ℕ → Type 0
IsValue None v = 2 ^ 128 ≤ v
IsValue (Some x) v = x ≡ v

pub record IsNumeral (n : Numeral) (plain : cells.Numeral) : Type 0 where
  pub value : IsValue n.value plain.0
  pub unknown : n.unknown ≡ plain.1 % 2 ^ 128

abbrev pub Reads : Option Numeral → Option cells.Numeral → Type 0
Reads None plain = plain ≡ None
Reads (Some n) plain = (p : cells.Numeral) × ((plain ≡ Some p) × IsNumeral n p)

abbrev pub Writes : Option Written → Option cells.Written → Type 0
Writes None plain = plain ≡ None
Writes (Some Unknown) plain = plain ≡ Some cells.Unknown
Writes (Some (Number n)) plain = (p : cells.Numeral) × ((plain ≡ Some (cells.Number p)) × IsNumeral n p)
