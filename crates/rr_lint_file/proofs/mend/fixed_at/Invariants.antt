use Rattle.std.proofs.Common.{◌≡◌, ℕ, drop, length, take, true}
use Rattle.std.specs.List.{All}
use Rattle.rr_edit.specs.Edits.{InOrder}
use Rattle.rr_edit.specs.Lifted.{lifts}
use Rattle.rr_edit.specs.View.{plain_edits}
use Rattle.rr_lint_file.proofs.mend.fixed_at.Given as goal

abbrev pub invariant-loop-edit : goal.invariant-loop-edit
invariant-loop-edit l = record {
  lift : All (λ e. lifts l.expanded.origins.items e ≡ true) (plain_edits (take l.edit-index l.made));
  order : (place : ℕ) × InOrder place (length l.expanded.origins.items) (plain_edits (drop l.edit-index l.made));
}
