use Rattle.std.proofs.Common.{◌≡◌, ◌||◌, take}
use Rattle.rr_expr.specs.declared.types.Bit.{Bit}
use Rattle.rr_latch.specs.Paths.{assigned, listed}
use Rattle.rr_latch.proofs.kept.forget.Given as goal

abbrev pub invariant-loop-bit : goal.invariant-loop-bit
invariant-loop-bit l = (b : Bit) → assigned l.table b ≡ (assigned l.fn.table b || listed (take l.bit-index l.bits) b)
