use Rattle.std.proofs.Common.{◌-◌, ℕ, ◌<◌, ◌≤◌, length}
use Rattle.rr_watch_lists.specs.Holdings.{held_at}
use Rattle.rr_watch.proofs.propagator.Propagator.find.Given as goal

abbrev pub invariant-loop-low : goal.invariant-loop-low
invariant-loop-low l = record {
  order : l.low ≤ l.high;
  end : l.high ≤ length l.self.hand.held;
  under : (k : ℕ) → k < l.low → (held_at l.self.hand.held k).id < l.id;
  over : (k : ℕ) → l.high ≤ k → k < length l.self.hand.held → l.id < (held_at l.self.hand.held k).id;
}

abbrev pub decreases-loop-low : goal.decreases-loop-low
decreases-loop-low l = l.high - l.low
