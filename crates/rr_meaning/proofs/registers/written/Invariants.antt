use Rattle.std.proofs.Common.{◌≡◌, ◌||◌, drop, map}
use Rattle.rr_expr.specs.declared.types.Bit.{Bit}
use Rattle.rr_flat.specs.View.{plain_block, plain_flat}
use Rattle.rr_named_bits.specs.Lists.{may}
use Rattle.rr_cycle.specs.Performing.{any_writes}
use Rattle.rr_meaning.proofs.registers.written.Given as goal

abbrev pub invariant-loop-block : goal.invariant-loop-block
invariant-loop-block l =
    (b : Bit) → (may l.list.items b || any_writes (plain_flat l.fn.flat) (map plain_block (drop l.block-index l.block-items)) b) ≡ any_writes (plain_flat l.fn.flat) (map plain_block l.block-items) b
