use Rattle.std.proofs.Common.{◌≡◌, ◌++◌, drop}
use Rattle.std.specs.Prelude.{flat_map}
use Rattle.rr_syntax.specs.View.{plain_item, plain_module, texts}
use Rattle.rr_choice.specs.View.{plain_sites}
use Rattle.rr_sites_listed.specs.Listing.{item_sites}
use Rattle.rr_sites_listed.proofs.listing.add_sites_of_module.Given as goal

abbrev pub invariant-loop-item : goal.invariant-loop-item
invariant-loop-item l =
    plain_sites l.list.items ++ flat_map (λ x. item_sites (plain_module l.«module») l.place.«module» l.scope (texts l.place.clocks.now) (plain_item x)) (drop l.item-index l.«module».items.now)
    ≡ plain_sites l.fn.list.items ++ flat_map (λ x. item_sites (plain_module l.«module») l.place.«module» l.scope (texts l.place.clocks.now) (plain_item x)) l.«module».items.now
