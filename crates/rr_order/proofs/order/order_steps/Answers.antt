use Rattle.rr_flat.specs.View.{plain_flat}
use Rattle.rr_order.proofs.Telling.{rows_closed}
use Rattle.rr_order.proofs.order.order_steps.Goals as goal

pub sort-requires : goal.sort-requires
sort-requires c = rw c.as_slice.ensures.value (rows_closed (plain_flat c.args.flat.now) _ c.in_ok-nodes.nodes.steps.items c.in_ok-nodes.nodes.rows.items c.in_ok-nodes.ensures.graph)
