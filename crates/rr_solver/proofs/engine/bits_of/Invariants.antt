use Rattle.std.proofs.Common.{◌≡◌, ◌+◌, length}
use Rattle.rr_trail.specs.Trails.{lits}
use Rattle.rr_solver.specs.Engines.{Agrees}
use Rattle.rr_solver.proofs.engine.bits_of.Given as goal

abbrev pub invariant-loop-index : goal.invariant-loop-index
invariant-loop-index l = record {
  long : length l.bits.items ≡ l.index + 1;
  agrees : Agrees l.bits.items l.index (lits l.watch.trail);
}
