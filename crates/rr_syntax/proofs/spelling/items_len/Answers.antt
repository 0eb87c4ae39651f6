use Rattle.std.proofs.Common.{arith, sym}
use Rattle.rr_syntax.specs.Items.{spell_item}
use Rattle.rr_syntax.specs.View.{plain_item}
use Rattle.rr_syntax.proofs.ItemLengths.{all_len, own_len, all_sum}
use Rattle.rr_syntax.proofs.Sums.{sum_within, sum_next, sum_full}
use Rattle.rr_syntax.proofs.spelling.items_len.Goals as goal

pub loop-item-init : goal.loop-item-init
loop-item-init c = sym (all_sum spell_item plain_item).none

pub item_len-total-requires : goal.item_len-total-requires
item_len-total-requires c = omega (arith, sum_within (all_len spell_item plain_item) (own_len spell_item plain_item) (all_sum spell_item plain_item) c.args.items.now c.loop-item.item-index c.item-item.result c.loop-item-test.true c.item-item.is)

pub overflow_add-total : goal.overflow_add-total
overflow_add-total c = omega (arith, sum_within (all_len spell_item plain_item) (own_len spell_item plain_item) (all_sum spell_item plain_item) c.args.items.now c.loop-item.item-index c.item-item.result c.loop-item-test.true c.item-item.is)

pub loop-item-preserved : goal.loop-item-preserved
loop-item-preserved c = omega (arith, sum_next (all_len spell_item plain_item) (own_len spell_item plain_item) (all_sum spell_item plain_item) c.args.items.now c.loop-item.item-index c.item-item.result c.loop-item-test.true c.item-item.is)

pub returns : goal.returns
returns c = omega (arith, sum_full (all_len spell_item plain_item) c.args.items.now c.loop-item.item-index c.loop-item-test.false)
