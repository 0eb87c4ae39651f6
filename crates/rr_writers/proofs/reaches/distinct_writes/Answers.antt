use Rattle.std.proofs.Common.{ap}
use Rattle.rr_named_bits.specs.Lists.{covered, may}
use Rattle.rr_writers.proofs.Reaching.{writes_next, writes_done}
use Rattle.rr_writers.proofs.reaches.distinct_writes.Goals as goal

pub loop-write-init : goal.loop-write-init
unfolding covered may
loop-write-init c = λ b. ap (λ z. covered z b) c.new-list.ensures.items

pub loop-write-preserved : goal.loop-write-preserved
loop-write-preserved c = writes_next c.args.writes.now c.loop-write.write-index _ c.loop-write.list.items c.add_reach.new.list.items c.loop-write-test.true c.loop-write.invariant c.in_ok-add_reach.ensures

pub returns : goal.returns
returns c = writes_done c.args.writes.now c.loop-write.write-index c.loop-write.list.items c.loop-write-test.false c.loop-write.invariant
