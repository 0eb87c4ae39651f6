use Rattle.std.proofs.Common.{◌≡◌, ℕ, ◌+◌, ◌-◌, get_or, vec_len}
use Rattle.rr_writers.proofs.table.put_number.Given as goal

abbrev pub invariant-loop-row : goal.invariant-loop-row
invariant-loop-row l = (i : ℕ) → get_or l.row.items i 0 ≡ get_or l.fn.row.items i 0

abbrev pub decreases-loop-row : goal.decreases-loop-row
decreases-loop-row l = (l.place + 1) - vec_len l.row
