use Rattle.std.proofs.Common.{◌≡◌, ◌&&◌, take}
use Rattle.rr_expr.specs.declared.types.Bit.{Bit}
use Rattle.rr_latch.specs.Paths.{assigned, listed}
use Rattle.rr_latch.proofs.paths.assigned_of.Given as goal

abbrev pub invariant-loop-bit : goal.invariant-loop-bit
invariant-loop-bit l = (b : Bit) → listed l.kept.items b ≡ (listed (take l.bit-index l.bits) b && assigned l.table b)
