use Rattle.std.proofs.Common.{◌≡◌, ℕ, List, map, nat_eq, take}
use Rattle.std.specs.List.{list_any}
use Rattle.indexmap.specs.IndexSet.{contains}
use Rattle.rr_syntax.specs.View.{plain_module}
use Rattle.rr_body_laws.specs.Bodies.{modules_with}
use Rattle.rr_lint_laws.specs.Mended.{mended_body}
use Rattle.rr_lint_names.specs.Latched.{marks}
use Rattle.rr_lint_tree.proofs.mending.new_modules.Given as goal

abbrev pub invariant-loop-i : goal.invariant-loop-i
invariant-loop-i l = record {
  done : (numbers : List ℕ) → ((k : ℕ) → contains nat_eq l.reached k ≡ list_any (nat_eq k) numbers) → map plain_module l.list.items ≡ modules_with numbers (mended_body (marks l.noted)) 0 (map plain_module (take l.i l.old));
}
