use Rattle.std.proofs.Common.{ℕ, ◌<◌, ◌^◌, [], length, map, get_or}
use Rattle.rr_design_tests.proofs.tables.are_short.Given as goal

abbrev pub invariant-loop-row : goal.invariant-loop-row
invariant-loop-row l = (r : ℕ) → r < l.row-index → length (get_or (map (λ v. v.items) l.rows) r []) < 2 ^ 32
