use Rattle.std.proofs.Common.{arith, sym}
use Rattle.std.proofs.lemmas.Bool.Decides.{nat_tests}
use Rattle.rr_syntax.specs.Items.{height_item}
use Rattle.rr_syntax.specs.View.{plain_item}
use Rattle.rr_syntax.proofs.Depths.{all_height, own_height, all_greatest, deep-item}
use Rattle.rr_syntax.proofs.Sums.{greatest_within, greatest_next}
use Rattle.rr_syntax.proofs.nesting.items_height.Goals as goal

pub loop-item-init : goal.loop-item-init
loop-item-init c = sym (all_greatest height_item plain_item).none

pub item_depth-requires : goal.item_depth-requires
item_depth-requires c = omega (arith, greatest_within (all_height height_item plain_item) (own_height height_item plain_item) (all_greatest height_item plain_item) c.args.items.now c.loop-item.item-index c.item-item.result c.loop-item-test.true c.item-item.is, deep-item c.item-item.result)

pub overflow_add-item_depth : goal.overflow_add-item_depth
overflow_add-item_depth c = omega (arith, greatest_within (all_height height_item plain_item) (own_height height_item plain_item) (all_greatest height_item plain_item) c.args.items.now c.loop-item.item-index c.item-item.result c.loop-item-test.true c.item-item.is, deep-item c.item-item.result)

pub loop-item-preserved : goal.loop-item-preserved
loop-item-preserved c = grind (arith, nat_tests, greatest_next (all_height height_item plain_item) (own_height height_item plain_item) (all_greatest height_item plain_item) c.args.items.now c.loop-item.item-index c.item-item.result c.loop-item-test.true c.item-item.is, deep-item c.item-item.result)
