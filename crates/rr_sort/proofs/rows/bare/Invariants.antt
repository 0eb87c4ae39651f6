use Rattle.std.proofs.Common.{◌≡◌, ℕ, [], length, map}
use Rattle.rr_sort.specs.Graphs.{names_of, named}
use Rattle.rr_sort.proofs.rows.bare.Given as goal

abbrev pub invariant-loop-made : goal.invariant-loop-made
invariant-loop-made l = (length l.rows.items ≡ l.made) × ((v : ℕ) → named (map names_of l.rows.items) v ≡ [])
