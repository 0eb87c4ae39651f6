use Rattle.rr_loop_rules.proofs.Entering.{there_none, there_more, there_all}
use Rattle.rr_loop_rules.proofs.around.is_around.Goals as goal

pub loop-inner-init : goal.loop-inner-init
loop-inner-init c = there_none c.args.name.now c.args.around.now

pub loop-inner-preserved : goal.loop-inner-preserved
loop-inner-preserved c =
    there_more c.args.name.now c.args.around.now c.loop-inner.inner-index _ c.loop-inner.there c.is_or-there.result c.loop-inner-test.true c.loop-inner.invariant c.is_or-there.ensures

pub returns : goal.returns
returns c = there_all c.args.name.now c.args.around.now c.loop-inner.inner-index c.loop-inner.there c.loop-inner-test.false c.loop-inner.invariant
