use Rattle.std.proofs.Common.{arith}
use Rattle.rr_order.proofs.Telling.{steps_put, steps_past, steps_done}
use Rattle.rr_order.proofs.order.steps_among.Goals as goal
use Rattle.rr_order.proofs.order.steps_among.Goals.{then-node-first+in_ok-push, else-node-first}

pub loop-node-preserved : goal.loop-node-preserved
loop-node-preserved c = elim c.if-node-first.branch [
  | then-node-first+in_ok-push w ↦
      let r = c.requires c.loop-node.node-index c.loop-node-test.true in
      rw (w.sorted-is, w.in_ok-push.ensures.items) (steps_put c.args.first c.args.steps.now c.args.order.now c.loop-node.node-index c.loop-node.sorted.items _ c.loop-node-test.true c.loop-node.invariant w.if-node-first.true (omega (arith, r, w.if-node-first.true)))
  | else-node-first w ↦ rw w.sorted-is (steps_past c.args.first c.args.steps.now c.args.order.now c.loop-node.node-index c.loop-node.sorted.items c.loop-node-test.true c.loop-node.invariant w.if-node-first.false)
]

pub returns : goal.returns
returns c = steps_done c.args.first c.args.steps.now c.args.order.now c.loop-node.node-index c.loop-node.sorted.items c.loop-node-test.false c.loop-node.invariant
