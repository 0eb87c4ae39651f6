-- Constant operands whose values are known.
use Rattle.std.specs.Prelude.{◌≡◌, ℤ, Option, Some, None}
use Rattle.std.specs.List.{All}
use Rattle.rr_syntax.specs.Tree.{Tree}
use Rattle.rr_syntax.specs.View.{plain}
use Rattle.rr_expr.specs.declared.notes.Known.{Known}
use Rattle.rr_expr.specs.declared.notes.Notes.{Notes}
use Rattle.rr_expr.specs.declared.notes.Table.{Table}
use Rattle.rr_expr.specs.Indices.{integer_of}
use Rattle.rr_expr.specs.Scopes.{Names}
use Rattle.rr_expr.specs.Selects.{integer_with}
use Rattle.rr_expr.specs.Values.{form, value, nowhere}

-- the integer that a constant operand is by itself
abbrev pub integer_in : Names → Tree → ℤ
integer_in s t = integer_with (form s t) (value s t nowhere)

abbrev pub IsRight : Names → Known → Type 0
IsRight s k = integer_of k.index ≡ integer_in s (plain k.expr.now)

abbrev pub IsRightNote : Names → Option Known → Type 0
IsRightNote s None = Unit {0}
IsRightNote s (Some k) = IsRight s k

-- each that a table keeps has its value
unfoldable pub HasRight : Names → Table → Type 0
HasRight s table = All (IsRightNote s) table.kept

abbrev HasRightOrNone : Names → Option Table → Type 0
HasRightOrNone s None = Unit {0}
HasRightOrNone s (Some table) = HasRight s table

-- each that is kept has its value
unfoldable pub Noted : Names → Notes → Type 0
Noted s notes = HasRightOrNone s notes.table
