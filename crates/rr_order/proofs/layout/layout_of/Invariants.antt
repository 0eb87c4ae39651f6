use Rattle.rr_flat.specs.View.{plain_flat}
use Rattle.rr_order.specs.Nodes.{widths}
use Rattle.rr_order.proofs.Building.{IsLaid}
use Rattle.rr_order.proofs.layout.layout_of.Given as goal

abbrev pub invariant-loop-id : goal.invariant-loop-id
invariant-loop-id l = IsLaid (widths (plain_flat l.flat)) l.id l.starts.items l.table.items
