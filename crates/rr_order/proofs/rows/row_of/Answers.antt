use Rattle.rr_flat.specs.View.{plain_flat}
use Rattle.rr_order.specs.Nodes.{Foreign, widths}
use Rattle.rr_order.proofs.Covering.{row_start, row_step, row_done}
use Rattle.rr_order.proofs.rows.row_of.Goals as goal

pub loop-reach-init : goal.loop-reach-init
loop-reach-init c = rw c.new-row.ensures.items (row_start (widths (plain_flat c.args.flat.now)) c.args.reaches.now (Foreign (widths (plain_flat c.args.flat.now)) c.args.own.now.items c.args.stamp))

pub loop-reach-preserved : goal.loop-reach-preserved
loop-reach-preserved c = row_step (widths (plain_flat c.args.flat.now)) c.args.reaches.now c.loop-reach.reach-index _ c.loop-reach.row.items c.add_reach.new.row.items (Foreign (widths (plain_flat c.args.flat.now)) c.args.own.now.items c.args.stamp) c.loop-reach-test.true c.loop-reach.invariant c.in_ok-add_reach.ensures

pub returns : goal.returns
returns c = row_done (widths (plain_flat c.args.flat.now)) c.args.reaches.now c.loop-reach.reach-index c.loop-reach.row.items (Foreign (widths (plain_flat c.args.flat.now)) c.args.own.now.items c.args.stamp) c.loop-reach-test.false c.loop-reach.invariant
