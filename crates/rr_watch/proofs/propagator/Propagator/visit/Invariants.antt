use Rattle.std.proofs.Common.{◌-◌}
use Rattle.rr_watch.specs.Lists.{Whole, Advances, KeepsPlace, AreServed, list_len}
use Rattle.rr_watch.proofs.propagator.Propagator.visit.Given as goal

abbrev pub invariant-loop-at : goal.invariant-loop-at
invariant-loop-at l = record {
  whole : Whole l.self;
  advances : Advances l.fn.self l.self;
  keeps : KeepsPlace l.fn.self l.self;
  served : AreServed l.self l.falsified l.at;
}

abbrev pub decreases-loop-at : goal.decreases-loop-at
decreases-loop-at l = list_len l.self l.falsified - l.at
