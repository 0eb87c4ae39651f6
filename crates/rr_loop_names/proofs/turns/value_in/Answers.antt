use Rattle.rr_loop_names.proofs.Entered.{turned_none, turned_more, turned_all}
use Rattle.rr_loop_names.proofs.turns.value_in.Goals as goal

pub loop-inner-init : goal.loop-inner-init
loop-inner-init c = turned_none c.args.name.now c.args.turn.now

pub loop-inner-preserved : goal.loop-inner-preserved
loop-inner-preserved c =
    turned_more c.args.name.now c.args.turn.now c.loop-inner.inner-index _ c.loop-inner.value c.nearer-value.result c.loop-inner-test.true c.loop-inner.invariant c.nearer-value.ensures

pub returns : goal.returns
returns c = turned_all c.args.name.now c.args.turn.now c.loop-inner.inner-index c.loop-inner.value c.loop-inner-test.false c.loop-inner.invariant
