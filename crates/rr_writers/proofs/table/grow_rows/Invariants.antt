use Rattle.std.proofs.Common.{◌≡◌, ◌+◌, ◌-◌, vec_len}
use Rattle.rr_expr.specs.declared.types.Bit.{Bit}
use Rattle.rr_writers.specs.Tables.{entry, rows_of}
use Rattle.rr_writers.proofs.table.grow_rows.Given as goal

abbrev pub invariant-loop-alloc : goal.invariant-loop-alloc
invariant-loop-alloc l = (b : Bit) → entry (rows_of l.rows.items) b ≡ entry (rows_of l.fn.rows.items) b

abbrev pub decreases-loop-alloc : goal.decreases-loop-alloc
decreases-loop-alloc l = (l.signal + 1) - vec_len l.rows
