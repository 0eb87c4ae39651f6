use Rattle.std.proofs.Common.{◌≡◌, ℕ, nat_eq, take}
use Rattle.std.specs.List.{list_any}
use Rattle.indexmap.specs.IndexSet.{contains}
use Rattle.rr_lint_names.proofs.reached.number_set.Given as goal

abbrev pub invariant-loop-number : goal.invariant-loop-number
invariant-loop-number l = record { done : (k : ℕ) → contains nat_eq l.set k ≡ list_any (nat_eq k) (take l.number-index l.numbers) }
