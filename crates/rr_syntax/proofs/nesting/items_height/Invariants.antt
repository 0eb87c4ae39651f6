use Rattle.std.proofs.Common.{◌≡◌, take}
use Rattle.rr_syntax.specs.Items.{height_item}
use Rattle.rr_syntax.specs.View.{plain_item}
use Rattle.rr_syntax.proofs.Depths.{all_height}
use Rattle.rr_syntax.proofs.nesting.items_height.Given as goal

abbrev pub invariant-loop-item : goal.invariant-loop-item
invariant-loop-item l = l.deepest ≡ all_height height_item plain_item (take l.item-index l.items)
