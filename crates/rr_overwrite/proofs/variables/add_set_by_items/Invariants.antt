use Rattle.std.proofs.Common.{◌≡◌, ◌||◌, map, drop}
use Rattle.std.specs.List.{list_any}
use Rattle.rr_syntax.specs.View.{plain_item}
use Rattle.rr_flat.specs.Signals.{Text}
use Rattle.rr_guard.specs.Candidates.{is_among}
use Rattle.rr_overwrite.specs.Overwrites.{item_sets}
use Rattle.rr_overwrite.proofs.variables.add_set_by_items.Given as goal

abbrev pub invariant-loop-item : goal.invariant-loop-item
invariant-loop-item l =
    (name : Text) → (is_among name l.set || list_any (item_sets name) (map plain_item (drop l.item-index l.items))) ≡ (is_among name l.fn.set || list_any (item_sets name) (map plain_item l.items))
