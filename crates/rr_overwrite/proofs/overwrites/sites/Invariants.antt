use Rattle.std.proofs.Common.{◌≡◌, ◌++◌, drop}
use Rattle.std.specs.Prelude.{flat_map}
use Rattle.rr_syntax.specs.View.{plain_item, plain_module, texts}
use Rattle.rr_choice.specs.View.{plain_sites}
use Rattle.rr_change_places.specs.Spots.{is_clocked, spots_of_item}
use Rattle.rr_overwrite.specs.Overwrites.{overwrites_at}
use Rattle.rr_overwrite.proofs.overwrites.sites.Given as goal

abbrev pub invariant-loop-item : goal.invariant-loop-item
invariant-loop-item l =
    plain_sites l.list.items ++ flat_map (λ x. flat_map (overwrites_at (plain_module l.«module») l.place.«module» l.scope (texts l.place.clocks.now) (is_clocked (plain_item x))) (spots_of_item (plain_item x))) (drop l.item-index l.«module».items.now)
    ≡ flat_map (λ x. flat_map (overwrites_at (plain_module l.«module») l.place.«module» l.scope (texts l.place.clocks.now) (is_clocked (plain_item x))) (spots_of_item (plain_item x))) l.«module».items.now
