use Rattle.std.proofs.Common.{◌≡◌, take, true}
use Rattle.rr_flat.specs.View.{plain_flat}
use Rattle.rr_named_bits.specs.Lists.{covered}
use Rattle.rr_order.specs.Nodes.{IsRow, Foreign, widths}
use Rattle.rr_order.proofs.rows.row_of.Given as goal

abbrev pub invariant-loop-reach : goal.invariant-loop-reach
invariant-loop-reach l = IsRow (widths (plain_flat l.flat)) (λ b. (covered (take l.reach-index l.reaches) b ≡ true) × Foreign (widths (plain_flat l.flat)) l.own.items l.stamp b) l.row.items
