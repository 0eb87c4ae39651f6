use Rattle.rr_syntax.specs.View.{plain_item}
use Rattle.rr_guard.proofs.Lists.{any_end}
use Rattle.rr_overwrite.proofs.Declared.{any_more_item}
use Rattle.rr_overwrite.specs.Overwrites.{item_opens}
use Rattle.rr_overwrite.proofs.variables.add_open_by_items.Goals as goal

pub loop-item-preserved : goal.loop-item-preserved
loop-item-preserved c = λ name.
    any_more_item (item_opens name) plain_item _ _ _ c.args.items.now c.loop-item.item-index c.item-item.result c.loop-item-test.true c.item-item.is (c.in_ok-add_open_by_item.ensures name) (c.loop-item.invariant name)

pub returns : goal.returns
returns c = λ name. any_end (item_opens name) plain_item _ _ c.args.items.now c.loop-item.item-index c.loop-item-test.false (c.loop-item.invariant name)
