use Rattle.std.proofs.Common.{◌≡◌, ◌<◌, ◌≤◌, ℕ, get_or, true, false}
use Rattle.rr_sort.proofs.walk.next_unmarked.Given as goal

abbrev pub invariant-loop-at : goal.invariant-loop-at
invariant-loop-at l = (i : ℕ) → l.from ≤ i → i < l.at → get_or l.marked.items (get_or l.names.items i 0) false ≡ true
