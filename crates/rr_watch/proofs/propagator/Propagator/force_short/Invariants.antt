use Rattle.std.proofs.Common.{◌≡◌, length}
use Rattle.rr_watch.specs.Lists.{Whole, Advances, AreForcedShort}
use Rattle.rr_watch.proofs.propagator.Propagator.force_short.Given as goal

abbrev pub invariant-loop-place : goal.invariant-loop-place
invariant-loop-place l = record {
  whole : Whole l.self;
  advances : Advances l.fn.self l.self;
  end : l.place-end ≡ length l.self.short.items;
  done : AreForcedShort l.self l.place;
}
