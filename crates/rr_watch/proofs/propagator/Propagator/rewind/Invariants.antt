use Rattle.std.proofs.Common.{◌≡◌, ◌≤◌, ◌<◌, ℕ}
use Rattle.rr_trail.specs.Trails.{entry}
use Rattle.rr_watch.proofs.propagator.Propagator.rewind.Given as goal

abbrev pub invariant-loop-self : goal.invariant-loop-self
invariant-loop-self l = record {
  state : l.self ≡ record l.fn.self { head = l.self.head };
  low : l.self.head ≤ l.fn.self.head;
  again : (k : ℕ) → l.self.head ≤ k → k < l.fn.self.head → (entry l.fn.self.trail.entries k).level ≡ l.fn.self.trail.depth;
}

abbrev pub decreases-loop-self : goal.decreases-loop-self
decreases-loop-self l = l.self.head
