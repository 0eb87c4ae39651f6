use Rattle.std.proofs.Common.{◌∙◌, sym}
use Rattle.std.specs.Prelude.{flat_map}
use Rattle.rr_syntax.specs.View.{plain_item, plain_module, texts}
use Rattle.rr_choice.specs.View.{plain_sites}
use Rattle.rr_change_places.specs.Spots.{is_clocked, spots_of_item}
use Rattle.rr_change_places.proofs.Walks.{all_done, flat_map_map}
use Rattle.rr_overwrite.specs.Overwrites.{overwrites_at}
use Rattle.rr_overwrite.proofs.Listed.{fit_kept, overwrites_are}
use Rattle.rr_overwrite.proofs.overwrites.sites.Goals as goal

pub add_overwrites_of_item-requires : goal.add_overwrites_of_item-requires
add_overwrites_of_item-requires c = record { fit = λ name h. fit_kept (plain_module c.args.«module».now) _ c.args.scope.now c.in_ok-variables.ensures c.requires name h }

pub returns : goal.returns
returns c =
    let m = plain_module c.args.«module».now in
    all_done (λ x. flat_map (overwrites_at m c.args.place.now.«module» c.args.scope.now (texts c.args.place.now.clocks.now) (is_clocked (plain_item x))) (spots_of_item (plain_item x))) (plain_sites c.loop-item.list.items) _ c.args.«module».now.items.now c.loop-item.item-index c.loop-item-test.false c.loop-item.invariant
    ∙ (flat_map_map (λ x. flat_map (overwrites_at m c.args.place.now.«module» c.args.scope.now (texts c.args.place.now.clocks.now) (is_clocked x)) (spots_of_item x)) plain_item c.args.«module».now.items.now
    ∙ sym (overwrites_are c.args.«module».now c.args.place.now.«module» c.args.scope.now (texts c.args.place.now.clocks.now)))
