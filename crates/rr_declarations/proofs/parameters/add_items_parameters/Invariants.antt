use Rattle.std.proofs.Common.{◌≡◌, map, drop}
use Rattle.rr_flat.specs.Faults.{each}
use Rattle.rr_declarations.specs.Sound.{ArePlaces}
use Rattle.rr_syntax.specs.View.{plain_item}
use Rattle.rr_declarations.specs.Parameters.{add_item_parameters}
use Rattle.rr_declarations.proofs.parameters.add_items_parameters.Given as goal

abbrev pub invariant-loop-item : goal.invariant-loop-item
invariant-loop-item l = record { walked : each (add_item_parameters l.given) (map plain_item (drop l.item-index l.items)) l.names ≡ each (add_item_parameters l.given) (map plain_item l.items) l.fn.names; constants : ArePlaces 0 l.fn.names → ArePlaces 0 l.names }
