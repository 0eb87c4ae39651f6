use Rattle.std.proofs.Common.{◌-◌, length}
use Rattle.rr_watch.specs.Lists.{Whole, Advances, AreForcedShort}
use Rattle.rr_watch.proofs.propagator.Propagator.propagate.Given as goal

abbrev pub invariant-loop-self : goal.invariant-loop-self
invariant-loop-self l = record {
  whole : Whole l.self;
  advances : Advances l.fn.self l.self;
  short : AreForcedShort l.self (length l.self.short.items);
}

abbrev pub decreases-loop-self : goal.decreases-loop-self
decreases-loop-self l = l.self.trail.vars - l.self.head
