use Rattle.std.proofs.Common.{arith, ap, length, ◌∷◌, [], length-append}
use Rattle.rr_order.proofs.graph.add_step.Goals as goal

pub join_each-requires : goal.join_each-requires
join_each-requires c = λ v i. omega (arith, c.requires v i, ap length c.in_ok-push.ensures.items, length-append c.args.nodes.now.rows.items (c.args.row ∷ []))
