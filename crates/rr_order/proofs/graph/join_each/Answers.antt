use Rattle.std.proofs.Common.{arith, refl, get_or, map}
use Rattle.rr_sort.specs.Graphs.{names_of}
use Rattle.rr_sort.proofs.Sorting.{graph_count}
use Rattle.rr_order.proofs.Lists.{joined_more}
use Rattle.rr_order.proofs.graph.join_each.Goals as goal

pub join-requires : goal.join-requires
join-requires c = omega (arith, c.requires (get_or c.args.nodes.now c.loop-node.node-index 0) (c.loop-node.node-index, (c.loop-node-test.true, refl)), c.loop-node.invariant.count, graph_count c.loop-node.rows.items, graph_count c.args.rows.now.items)

pub loop-node-preserved : goal.loop-node-preserved
loop-node-preserved c =
    joined_more (map names_of c.args.rows.now.items) (map names_of c.loop-node.rows.items) (map names_of c.join.new.rows.items) c.args.nodes.now c.loop-node.node-index (get_or c.args.nodes.now c.loop-node.node-index 0) c.args.to c.loop-node-test.true refl
    (omega (arith, c.requires (get_or c.args.nodes.now c.loop-node.node-index 0) (c.loop-node.node-index, (c.loop-node-test.true, refl)), c.loop-node.invariant.count, graph_count c.args.rows.now.items)) c.in_ok-join.ensures c.loop-node.invariant
