use Rattle.std.proofs.Common.{◌∙◌, sym, ap, subst, ◌++◌}
use Rattle.std.specs.List.{AllByRecursion}
use Rattle.rr_syntax.specs.View.{plain_item, plain_module, texts}
use Rattle.rr_choice.specs.View.{plain_sites}
use Rattle.rr_change_places.specs.Spots.{AreCountable}
use Rattle.rr_change_places.proofs.Walks.{one_more, all_done, flat_map_map}
use Rattle.rr_guard.proofs.Lists.{all_item, module_items}
use Rattle.rr_overwrite.proofs.Listed.{fit_kept}
use Rattle.rr_sites_listed.specs.Listing.{item_sites}
use Rattle.rr_sites_listed.proofs.Places.{module_is}
use Rattle.rr_sites_listed.proofs.listing.add_sites_of_module.Goals as goal

pub add_sites_of_item-requires-clause-few : goal.add_sites_of_item-requires-clause-few
add_sites_of_item-requires-clause-few c =
    all_item AreCountable plain_item c.args.«module».now.items.now c.loop-item.item-index c.item-item.result c.loop-item-test.true c.item-item.is
    (subst (AllByRecursion AreCountable) (module_items c.args.«module».now) c.requires.few)

pub add_sites_of_item-requires-clause-fit : goal.add_sites_of_item-requires-clause-fit
add_sites_of_item-requires-clause-fit c = λ name h. fit_kept (plain_module c.args.«module».now) _ c.args.scope.now c.in_ok-variables.ensures c.requires.fit name h

pub loop-item-preserved : goal.loop-item-preserved
loop-item-preserved c =
    one_more (λ x. item_sites (plain_module c.args.«module».now) c.args.place.now.«module» c.args.scope.now (texts c.args.place.now.clocks.now) (plain_item x)) (plain_sites c.loop-item.list.items) _ _ c.args.«module».now.items.now c.loop-item.item-index c.item-item.result c.loop-item-test.true c.item-item.is
    (c.in_ok-add_sites_of_item.ensures (plain_module c.args.«module».now) (texts c.args.place.now.clocks.now) c.in_ok-variables.ensures c.in_ok-names.ensures) c.loop-item.invariant

pub returns : goal.returns
returns c =
    all_done (λ x. item_sites (plain_module c.args.«module».now) c.args.place.now.«module» c.args.scope.now (texts c.args.place.now.clocks.now) (plain_item x)) (plain_sites c.loop-item.list.items) _ c.args.«module».now.items.now c.loop-item.item-index c.loop-item-test.false c.loop-item.invariant
    ∙ ap (λ z. plain_sites c.args.list.now.items ++ z)
    (flat_map_map (item_sites (plain_module c.args.«module».now) c.args.place.now.«module» c.args.scope.now (texts c.args.place.now.clocks.now)) plain_item c.args.«module».now.items.now
    ∙ sym (module_is c.args.«module».now c.args.place.now.«module» c.args.scope.now (texts c.args.place.now.clocks.now)))
