use Rattle.std.proofs.Common.{◌≡◌, ℕ, drop, length}
use Rattle.std.specs.List.{list_all}
use Rattle.rr_edit.specs.Edits.{InOrder}
use Rattle.rr_edit.specs.Lifted.{lifts}
use Rattle.rr_edit.specs.View.{plain_edits}
use Rattle.rr_map.proofs.lifting.all_lift.Given as goal

abbrev pub invariant-loop-edit : goal.invariant-loop-edit
invariant-loop-edit l = record {
  lift : list_all (lifts l.origins) (plain_edits (drop l.edit-index l.edits)) ≡ list_all (lifts l.origins) (plain_edits l.edits);
  order : (place : ℕ) × InOrder place (length l.origins) (plain_edits (drop l.edit-index l.edits));
}
