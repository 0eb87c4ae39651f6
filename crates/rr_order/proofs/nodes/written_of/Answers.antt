use Rattle.rr_flat.specs.View.{plain_flat}
use Rattle.rr_order.specs.Nodes.{widths}
use Rattle.rr_order.proofs.Covering.{written_start, written_step, written_done}
use Rattle.rr_order.proofs.nodes.written_of.Goals as goal

pub loop-reach-init : goal.loop-reach-init
loop-reach-init c = rw c.new-nodes.ensures.items (written_start (widths (plain_flat c.args.flat.now)) c.args.reaches.now)

pub loop-reach-preserved : goal.loop-reach-preserved
loop-reach-preserved c = written_step (widths (plain_flat c.args.flat.now)) c.args.own.now.items c.args.stamp c.args.reaches.now c.loop-reach.reach-index _ c.loop-reach.nodes.items c.add_words.new.nodes.items c.loop-reach-test.true c.requires.fresh c.loop-reach.invariant c.in_ok-add_words.ensures

pub returns : goal.returns
returns c = written_done (widths (plain_flat c.args.flat.now)) c.args.reaches.now c.loop-reach.reach-index c.loop-reach.nodes.items c.loop-reach-test.false c.loop-reach.invariant
