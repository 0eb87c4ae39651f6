use Rattle.std.proofs.Common.{◌≡◌, ℕ, ◌++◌, true, drop, length}
use Rattle.std.specs.List.{list_all}
use Rattle.rr_edit.specs.Edits.{InOrder, edited}
use Rattle.rr_edit.specs.Lifted.{lifts}
use Rattle.rr_edit.specs.View.{plain_edits}
use Rattle.rr_map.specs.Moves.{all_moved}
use Rattle.rr_map.proofs.lifting.make_all.Given as goal

abbrev pub invariant-loop-edit : goal.invariant-loop-edit
invariant-loop-edit l = record {
  made : l.out.items ++ edited l.at (drop l.at l.file) (all_moved l.origins (plain_edits (drop l.edit-index l.edits))) ≡ edited 0 l.file (all_moved l.origins (plain_edits l.edits));
  moved : InOrder l.at (length l.file) (all_moved l.origins (plain_edits (drop l.edit-index l.edits)));
  order : (place : ℕ) × InOrder place (length l.origins) (plain_edits (drop l.edit-index l.edits));
  lift : list_all (lifts l.origins) (plain_edits (drop l.edit-index l.edits)) ≡ true;
}
