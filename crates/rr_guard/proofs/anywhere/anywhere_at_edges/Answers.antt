use Rattle.std.proofs.Common.{◌∙◌, sym, ap, map}
use Rattle.rr_text_names.specs.View.{plain_target}
use Rattle.rr_syntax.specs.View.{plain_item}
use Rattle.rr_guard.specs.Anywhere.{anywhere_at_edges}
use Rattle.std.specs.Prelude.{flat_map}
use Rattle.rr_guard.proofs.Lists.{module_items}
use Rattle.rr_change_places.proofs.Walks.{one_more, all_done, flat_map_map}
use Rattle.rr_guard.proofs.anywhere.anywhere_at_edges.Goals as goal

pub loop-item-preserved : goal.loop-item-preserved
loop-item-preserved c =
    one_more (λ x. anywhere_at_edges (plain_item x)) (map plain_target c.loop-item.list.items) _ _ c.args.module.now.items.now c.loop-item.item-index c.item-item.result c.loop-item-test.true c.item-item.is c.in_ok-add_item.ensures c.loop-item.invariant

pub returns : goal.returns
returns c =
    all_done (λ x. anywhere_at_edges (plain_item x)) (map plain_target c.loop-item.list.items) _ c.args.module.now.items.now c.loop-item.item-index c.loop-item-test.false c.loop-item.invariant
    ∙ (flat_map_map anywhere_at_edges plain_item c.args.module.now.items.now ∙ ap (flat_map anywhere_at_edges) (sym (module_items c.args.module.now)))
