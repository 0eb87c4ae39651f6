use Rattle.std.proofs.Common.{◌≡◌, ◌-◌, ◌≤◌, ◌++◌, List, drop, length}
use Rattle.std.specs.List.{flat_map, list_any}
use Rattle.rr_directive.specs.Pieces.{units}
use Rattle.rr_directive.specs.Expand.{Definition, Item, has_directive, text_items}
use Rattle.rr_directive.specs.View.{AreItems, Extends, Knows, names_of}
use Rattle.rr_directive.proofs.Texts.{its_items, is_directive}
use Rattle.rr_directive.proofs.text.parts_of.Given as goal

abbrev pub decreases-loop-at : goal.decreases-loop-at
decreases-loop-at l = length l.text - l.at

abbrev pub invariant-loop-at : goal.invariant-loop-at
invariant-loop-at l = record {
  within : l.at ≤ length l.text;
  extends : Extends (names_of l.fn.definitions) (names_of l.definitions);
  knows : (ds : List Definition) → Knows l.fn.definitions ds → Knows l.definitions ds;
  done : (items : List Item) × (AreItems (names_of l.definitions) l.parts.items items × (items ++ flat_map its_items (units l.at 0 (drop l.at l.text)) ≡ text_items l.text));
  plain : list_any is_directive (units l.at 0 (drop l.at l.text)) ≡ has_directive l.text;
}
