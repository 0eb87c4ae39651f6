use Rattle.std.proofs.Common.{◌≡◌, ℕ, List, nat_eq}
use Rattle.std.specs.List.{list_any}
use Rattle.indexmap.specs.IndexSet.{contains}
use Rattle.rr_patch.specs.Changes.{plain_changes}
use Rattle.rr_lint_names.specs.Latched.{marks}
use Rattle.rr_lint.proofs.Items.{ModulesTo}
use Rattle.rr_lint.proofs.changes.declarations.Given as goal

abbrev pub invariant-loop-i : goal.invariant-loop-i
invariant-loop-i l = record {
  done : (numbers : List ℕ) → ((k : ℕ) → contains nat_eq l.reached k ≡ list_any (nat_eq k) numbers) → ModulesTo (marks l.noted) numbers (plain_changes l.initial.out.items) (plain_changes l.out.items) l.entries l.i;
}
