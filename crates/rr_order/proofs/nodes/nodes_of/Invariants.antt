use Rattle.std.proofs.Common.{◌≡◌, ◌<◌, ℕ, get_or, Some, None}
use Rattle.rr_flat.specs.View.{plain_flat}
use Rattle.rr_order.specs.Nodes.{IsWritten, widths}
use Rattle.rr_order.proofs.nodes.nodes_of.Given as goal

abbrev pub invariant-loop-bit : goal.invariant-loop-bit
invariant-loop-bit l = IsWritten (widths (plain_flat l.flat)) (λ b. (i : ℕ) × ((i < l.bit-index) × (get_or l.bits i None ≡ Some b))) l.nodes.items
