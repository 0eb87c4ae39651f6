use Rattle.std.proofs.Common.{◌≡◌, map, drop, fold}
use Rattle.rr_syntax.specs.View.{plain_item}
use Rattle.rr_flatten.specs.Tables.{instantiated_by_item}
use Rattle.rr_flatten.proofs.tables.add_instantiated_of_items.Given as goal

abbrev pub invariant-loop-item : goal.invariant-loop-item
invariant-loop-item l = fold instantiated_by_item l.names (map plain_item (drop l.item-index l.items)) ≡ fold instantiated_by_item l.fn.names (map plain_item l.items)
