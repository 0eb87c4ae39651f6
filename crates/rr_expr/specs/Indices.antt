-- Numbers with a sign of their own.
use Rattle.std.specs.Prelude.{cond, ℤ, pos, ◌-ℤ◌}
use Rattle.rr_expr.specs.declared.selects.Index.{Index}

-- the integer that a sign and a size are
abbrev pub integer_of : Index → ℤ
integer_of i = cond i.negative (pos 0 -ℤ pos i.size) (pos i.size)
