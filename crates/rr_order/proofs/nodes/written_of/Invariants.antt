use Rattle.std.proofs.Common.{◌≡◌, take, true}
use Rattle.rr_flat.specs.View.{plain_flat}
use Rattle.rr_named_bits.specs.Lists.{covered}
use Rattle.rr_order.specs.Nodes.{IsWritten, widths}
use Rattle.rr_order.proofs.nodes.written_of.Given as goal

abbrev pub invariant-loop-reach : goal.invariant-loop-reach
invariant-loop-reach l = IsWritten (widths (plain_flat l.flat)) (λ b. covered (take l.reach-index l.reaches) b ≡ true) l.nodes.items
