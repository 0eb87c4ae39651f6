use Rattle.std.proofs.Common.{arith, refl, get_or}
use Rattle.rr_order.proofs.Lists.{stamped_more}
use Rattle.rr_order.proofs.nodes.stamp_all.Goals as goal

pub index_mut-requires : goal.index_mut-requires
index_mut-requires c = omega (arith, c.requires (get_or c.args.nodes.now c.loop-node.node-index 0) (c.loop-node.node-index, (c.loop-node-test.true, refl)), c.loop-node.invariant.count, c.loop-node.own.ok)

pub loop-node-preserved : goal.loop-node-preserved
loop-node-preserved c =
    stamped_more c.args.own.now.items c.loop-node.own.items c.args.nodes.now c.loop-node.node-index (get_or c.args.nodes.now c.loop-node.node-index 0) c.args.stamp c.loop-node-test.true refl
    (omega (arith, c.requires (get_or c.args.nodes.now c.loop-node.node-index 0) (c.loop-node.node-index, (c.loop-node-test.true, refl)), c.loop-node.invariant.count)) c.loop-node.invariant
