use Rattle.std.proofs.Common.{◌≡◌, ◌||◌, ℕ, List, nat_eq, map, take}
use Rattle.std.specs.List.{list_any}
use Rattle.indexmap.specs.IndexMap.{get}
use Rattle.rr_text_names.specs.View.{plain_target}
use Rattle.rr_lint_names.specs.Latched.{is_noted, marks}
use Rattle.rr_lint_names.proofs.latched_names.note_targets.Given as goal

abbrev pub invariant-loop-target : goal.invariant-loop-target
invariant-loop-target l = record {
  done : (t : ℕ) (name : List ℕ) → marks l.noted t name ≡ (marks l.initial.noted t name || list_any (is_noted l.names (get nat_eq l.lows) l.token t name) (map plain_target (take l.target-index l.targets)));
}
