use Rattle.std.proofs.Common.{◌≡◌, map, drop, fold}
use Rattle.rr_syntax.specs.View.{plain_item, texts}
use Rattle.rr_flatten.specs.Tables.{add_item_open_names}
use Rattle.rr_flatten.proofs.tables.add_open_of_items.Given as goal

abbrev pub invariant-loop-item : goal.invariant-loop-item
invariant-loop-item l = fold add_item_open_names (texts l.names.items) (map plain_item (drop l.item-index l.items)) ≡ fold add_item_open_names (texts l.fn.names.items) (map plain_item l.items)
