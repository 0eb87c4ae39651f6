use Rattle.std.proofs.Common.{◌≡◌, map, drop, fold}
use Rattle.rr_syntax.specs.View.{plain_item}
use Rattle.rr_declarations.specs.Declarations.{know_item}
use Rattle.rr_declarations.proofs.known.know_items.Given as goal

abbrev pub invariant-loop-item : goal.invariant-loop-item
invariant-loop-item l = fold know_item l.names (map plain_item (drop l.item-index l.items)) ≡ fold know_item l.fn.names (map plain_item l.items)
