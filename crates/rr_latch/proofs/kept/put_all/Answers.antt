use Rattle.rr_writers.specs.Tables.{entry}
use Rattle.rr_latch.proofs.Putting.{list_none, list_next, list_done}
use Rattle.rr_latch.proofs.kept.put_all.Goals as goal

pub loop-reach-init : goal.loop-reach-init
loop-reach-init c = list_none c.args.number (entry c.args.table.now)

pub loop-reach-preserved : goal.loop-reach-preserved
loop-reach-preserved c =
    list_next c.args.number c.args.reaches.now c.loop-reach.reach-index _ (entry c.args.table.now) (entry c.loop-reach.table) (entry c.put_reach.new.table) c.loop-reach-test.true c.loop-reach.invariant c.in_ok-put_reach.ensures

pub returns : goal.returns
returns c = list_done c.args.number c.args.reaches.now c.loop-reach.reach-index (entry c.args.table.now) (entry c.loop-reach.table) c.loop-reach-test.false c.loop-reach.invariant
