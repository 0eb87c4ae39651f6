use Rattle.std.proofs.Common.{◌≡◌, map, drop}
use Rattle.rr_flat.specs.Faults.{each}
use Rattle.rr_syntax.specs.View.{plain_item}
use Rattle.rr_declarations.specs.Declarations.{declare_item}
use Rattle.rr_declarations.specs.View.{plain_declarations}
use Rattle.rr_declarations.proofs.declare.Declarations.declare_items.Given as goal

abbrev pub invariant-loop-item : goal.invariant-loop-item
invariant-loop-item l = record { walked : each (declare_item l.brackets l.known) (map plain_item (drop l.item-index l.items)) (plain_declarations l.self) ≡ each (declare_item l.brackets l.known) (map plain_item l.items) (plain_declarations l.fn.self); same : l.self.instance ≡ l.fn.self.instance }
