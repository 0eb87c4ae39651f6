use Rattle.std.proofs.Common.{◌∙◌, sym, subst}
use Rattle.std.specs.Prelude.{flat_map}
use Rattle.std.specs.List.{AllByRecursion}
use Rattle.rr_syntax.specs.View.{plain_item, plain_module, texts}
use Rattle.rr_choice.specs.View.{plain_sites}
use Rattle.rr_change_places.specs.Spots.{AreCountable, is_clocked, spots_of_item}
use Rattle.rr_change_places.proofs.Walks.{all_done, flat_map_map}
use Rattle.rr_guard.specs.Guards.{guard_at}
use Rattle.rr_guard.proofs.GuardLists.{guards_are}
use Rattle.rr_guard.proofs.Lists.{all_item, module_items}
use Rattle.rr_guard.proofs.guards.sites.Goals as goal

pub add_guards_of_item-requires : goal.add_guards_of_item-requires
add_guards_of_item-requires c =
    all_item AreCountable plain_item c.args.«module».now.items.now c.loop-item.item-index c.item-item.result c.loop-item-test.true c.item-item.is
    (subst (AllByRecursion AreCountable) (module_items c.args.«module».now) c.requires)

pub returns : goal.returns
returns c =
    let m = plain_module c.args.«module».now in
    all_done (λ x. flat_map (guard_at m c.args.place.now.«module» (texts c.args.place.now.clocks.now) (is_clocked (plain_item x))) (spots_of_item (plain_item x))) (plain_sites c.loop-item.list.items) _ c.args.«module».now.items.now c.loop-item.item-index c.loop-item-test.false c.loop-item.invariant
    ∙ (flat_map_map (λ x. flat_map (guard_at m c.args.place.now.«module» (texts c.args.place.now.clocks.now) (is_clocked x)) (spots_of_item x)) plain_item c.args.«module».now.items.now
    ∙ sym (guards_are c.args.«module».now c.args.place.now.«module» (texts c.args.place.now.clocks.now)))
