use Rattle.std.proofs.Common.{ap}
use Rattle.rr_named_bits.specs.Lists.{covered}
use Rattle.rr_writers.proofs.Reaching.{distinct_next, distinct_done}
use Rattle.rr_writers.proofs.reaches.distinct.Goals as goal

pub loop-reach-init : goal.loop-reach-init
loop-reach-init c = λ b. ap (λ z. covered z b) c.new-list.ensures.items

pub loop-reach-preserved : goal.loop-reach-preserved
loop-reach-preserved c = distinct_next c.args.reaches.now c.loop-reach.reach-index _ c.loop-reach.list.items c.add_reach.new.list.items c.loop-reach-test.true c.loop-reach.invariant c.in_ok-add_reach.ensures

pub returns : goal.returns
returns c = distinct_done c.args.reaches.now c.loop-reach.reach-index c.loop-reach.list.items c.loop-reach-test.false c.loop-reach.invariant
