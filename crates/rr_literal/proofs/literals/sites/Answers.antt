use Rattle.std.proofs.Common.{◌∙◌, sym, ap, ◌++◌, drop}
use Rattle.std.specs.Prelude.{flat_map}
use Rattle.rr_syntax.specs.View.{plain_item}
use Rattle.rr_choice.specs.View.{plain_sites}
use Rattle.rr_change_places.specs.Spots.{spots_of_item}
use Rattle.rr_change_places.proofs.Walks.{one_more, all_done, flat_map_map}
use Rattle.rr_literal.specs.Literals.{literal_at}
use Rattle.rr_literal.proofs.Modules.{module_literals}
use Rattle.rr_literal.proofs.literals.sites.Goals as goal

pub loop-item-init : goal.loop-item-init
loop-item-init c = ap (λ xs. plain_sites xs ++ flat_map (λ x. flat_map literal_at (spots_of_item (plain_item x))) (drop 0 c.args.module.now.items.now)) c.new-list.ensures.items

pub loop-item-preserved : goal.loop-item-preserved
loop-item-preserved c =
    one_more (λ x. flat_map literal_at (spots_of_item (plain_item x))) (plain_sites c.loop-item.list.items) _ _ c.args.module.now.items.now c.loop-item.item-index c.item-item.result c.loop-item-test.true c.item-item.is
    c.in_ok-add_literals_of_item.ensures c.loop-item.invariant

pub returns : goal.returns
returns c =
    all_done (λ x. flat_map literal_at (spots_of_item (plain_item x))) (plain_sites c.loop-item.list.items) _ c.args.module.now.items.now c.loop-item.item-index c.loop-item-test.false c.loop-item.invariant
    ∙ (flat_map_map (λ x. flat_map literal_at (spots_of_item x)) plain_item c.args.module.now.items.now ∙ sym (module_literals c.args.module.now))
