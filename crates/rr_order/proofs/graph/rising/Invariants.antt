use Rattle.std.proofs.Common.{◌≡◌, ◌<◌, ◌+◌, ◌-◌, ℕ, length, get_or}
use Rattle.rr_order.proofs.graph.rising.Given as goal

abbrev pub invariant-loop-at : goal.invariant-loop-at
invariant-loop-at l = (length l.row.items ≡ l.at - l.from) × ((i : ℕ) → i < l.at - l.from → get_or l.row.items i 0 ≡ l.from + i)
