use Rattle.std.proofs.Common.{◌-◌, length}
use Rattle.rr_solver.specs.Engines.{Moves, Whole}
use Rattle.rr_solver.proofs.engine.Engine.search.Given as goal

abbrev pub invariant-loop-id : goal.invariant-loop-id
invariant-loop-id l = record {
  whole : Whole l.self;
  moves : Moves l.fn.self l.self;
}

abbrev pub decreases-loop-id : goal.decreases-loop-id
decreases-loop-id l = l.self.watch.vars - length l.self.watch.trail
