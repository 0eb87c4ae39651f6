use Rattle.std.proofs.Common.{take}
use Rattle.rr_vcd.specs.View.{Watches}
use Rattle.rr_vcd.proofs.sampler.watch_all.Given as goal

abbrev pub invariant-loop-probe : goal.invariant-loop-probe
invariant-loop-probe l = Watches l.fn.slots l.slots (take l.probe-index l.probes)
