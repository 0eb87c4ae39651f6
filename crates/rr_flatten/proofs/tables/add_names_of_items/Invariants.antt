use Rattle.std.proofs.Common.{◌≡◌, map, drop, fold}
use Rattle.rr_syntax.specs.View.{plain_item}
use Rattle.rr_flatten.specs.Tables.{add_item_parameter_names}
use Rattle.rr_flatten.proofs.tables.add_names_of_items.Given as goal

abbrev pub invariant-loop-item : goal.invariant-loop-item
invariant-loop-item l = fold add_item_parameter_names l.table (map plain_item (drop l.item-index l.items)) ≡ fold add_item_parameter_names l.fn.table (map plain_item l.items)
