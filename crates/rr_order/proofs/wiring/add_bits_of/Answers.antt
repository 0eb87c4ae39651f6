use Rattle.rr_order.proofs.Wirings.{run_start, run_step, run_done}
use Rattle.rr_order.proofs.wiring.add_bits_of.Goals as goal

pub loop-place-init : goal.loop-place-init
loop-place-init c = run_start c.args.piece c.args.bits.now.items

pub loop-place-preserved : goal.loop-place-preserved
loop-place-preserved c = rw c.in_ok-push.ensures.items (run_step c.args.piece c.loop-place.place c.args.bits.now.items c.loop-place.bits.items c.bit.result c.loop-place-test.true c.bit.ensures c.loop-place.invariant)

pub returns : goal.returns
returns c = run_done c.args.piece c.loop-place.place c.args.bits.now.items c.loop-place.bits.items c.loop-place-test.false c.loop-place.invariant
