use Rattle.std.proofs.Common.{◌≡◌}
use Rattle.rr_watch.proofs.Choices.{Chosen}
use Rattle.rr_watch.proofs.propagator.best.Given as goal

abbrev pub invariant-loop-lit : goal.invariant-loop-lit
invariant-loop-lit l = record {
  place : l.place ≡ l.lit-index;
  chosen : Chosen l.trail.entries l.clause l.other l.lit-index l.found l.greatest;
}
