use Rattle.std.proofs.Common.{◌≡◌, take}
use Rattle.rr_syntax.specs.Items.{spell_item}
use Rattle.rr_syntax.specs.View.{plain_item}
use Rattle.rr_syntax.proofs.ItemLengths.{all_len}
use Rattle.rr_syntax.proofs.spelling.items_len.Given as goal

abbrev pub invariant-loop-item : goal.invariant-loop-item
invariant-loop-item l = l.total ≡ all_len spell_item plain_item (take l.item-index l.items)
