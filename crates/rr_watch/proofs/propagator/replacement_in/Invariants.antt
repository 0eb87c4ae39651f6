use Rattle.std.proofs.Common.{◌≡◌, ◌⊎◌, ℕ, ◌<◌, ◌≤◌}
use Rattle.std.specs.Prelude.{Contains}
use Rattle.rr_cnf.specs.Clauses.{negated}
use Rattle.rr_trail.specs.Trails.{lits}
use Rattle.rr_watch.specs.Lists.{literal_at}
use Rattle.rr_watch.proofs.propagator.replacement_in.Given as goal

abbrev pub invariant-loop-place : goal.invariant-loop-place
invariant-loop-place l = (k : ℕ) → l.first ≤ k → k < l.place → (literal_at l.clause k ≡ l.other) ⊎ Contains (lits l.trail.entries) (negated (literal_at l.clause k))
