use Rattle.rr_order.proofs.Telling.{bits_put, bits_past, bits_done}
use Rattle.rr_order.proofs.order.bits_among.Goals as goal
use Rattle.rr_order.proofs.order.bits_among.Goals.{then-node-table+in_ok-push, else-node-table}

pub loop-node-preserved : goal.loop-node-preserved
loop-node-preserved c = elim c.if-node-table.branch [
  | then-node-table+in_ok-push w ↦ rw (w.bits-is, w.in_ok-push.ensures.items) (bits_put c.args.table.now c.args.cycle.now c.loop-node.node-index c.loop-node.bits.items _ c.loop-node-test.true c.loop-node.invariant w.if-node-table.true)
  | else-node-table w ↦ rw w.bits-is (bits_past c.args.table.now c.args.cycle.now c.loop-node.node-index c.loop-node.bits.items c.loop-node-test.true c.loop-node.invariant w.if-node-table.false)
]

pub returns : goal.returns
returns c = bits_done c.args.table.now c.args.cycle.now c.loop-node.node-index c.loop-node.bits.items c.loop-node-test.false c.loop-node.invariant
