use Rattle.rr_vcd.proofs.Slotting.{watches_none, watches_next}
use Rattle.rr_vcd.proofs.sampler.watch_all.Goals as goal

pub loop-probe-init : goal.loop-probe-init
loop-probe-init c = watches_none _

pub loop-probe-preserved : goal.loop-probe-preserved
loop-probe-preserved c = watches_next _ _ _ _ _ _ c.loop-probe-test.true c.loop-probe.invariant c.in_ok-watch.ensures
