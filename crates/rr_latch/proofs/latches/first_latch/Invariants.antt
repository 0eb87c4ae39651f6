use Rattle.std.proofs.Common.{◌≡◌, true, []}
use Rattle.rr_expr.specs.declared.types.Bit.{Bit}
use Rattle.rr_flat.specs.View.{plain_flat}
use Rattle.rr_latch.specs.Notes.{is_shut}
use Rattle.rr_latch.specs.Paths.{assigned}
use Rattle.rr_latch.proofs.BlocksInTurn.{BlocksRead}
use Rattle.rr_latch.proofs.latches.first_latch.Given as goal

abbrev pub invariant-loop-block : goal.invariant-loop-block
invariant-loop-block l = BlocksRead (plain_flat l.flat) l.block-index (assigned l.path.unassigned) × ((b : Bit) → is_shut l.early b ≡ true) × (l.early.bits.items ≡ [])
