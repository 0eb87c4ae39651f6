use Rattle.std.proofs.Common.{ℕ, ◌≤◌}
use Rattle.rr_cnf.specs.Partial.{IsAssigned}
use Rattle.rr_trail.specs.Trails.{lits}
use Rattle.rr_solver.proofs.engine.open_input.Given as goal

abbrev pub invariant-loop-index : goal.invariant-loop-index
invariant-loop-index l = (v : ℕ) → 1 ≤ v → v ≤ l.index → IsAssigned (lits l.watch.trail) v
