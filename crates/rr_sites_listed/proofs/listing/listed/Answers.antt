use Rattle.std.proofs.Common.{◌∙◌, sym, ap, ◌++◌, map, drop}
use Rattle.std.specs.Prelude.{flat_map}
use Rattle.rr_syntax.specs.View.{plain_source}
use Rattle.rr_choice.specs.View.{plain_sites}
use Rattle.rr_change_places.proofs.Walks.{one_more_at, all_done, flat_map_map}
use Rattle.rr_guard.proofs.Lists.{all_at}
use Rattle.rr_clock.specs.View.{plain_place}
use Rattle.rr_sites_listed.specs.Listing.{IsFitPlace, place_sites}
use Rattle.rr_sites_listed.proofs.Places.{sites_are}
use Rattle.rr_sites_listed.proofs.listing.listed.Goals as goal

pub add_sites_of_place-requires-clause-fit : goal.add_sites_of_place-requires-clause-fit
add_sites_of_place-requires-clause-fit c = all_at (IsFitPlace (plain_source c.args.source.now) c.args.scopes.now c.args.owners.now) plain_place c.args.places.now c.loop-place.place-index _ c.loop-place-test.true c.requires.fit

pub loop-place-init : goal.loop-place-init
loop-place-init c = ap (λ xs. plain_sites xs ++ flat_map (λ p. place_sites (plain_source c.args.source.now) c.args.scopes.now c.args.owners.now (plain_place p)) (drop 0 c.args.places.now)) c.new-list.ensures.items

pub loop-place-preserved : goal.loop-place-preserved
loop-place-preserved c =
    one_more_at (λ p. place_sites (plain_source c.args.source.now) c.args.scopes.now c.args.owners.now (plain_place p)) (plain_sites c.loop-place.list.items) _ _ c.args.places.now c.loop-place.place-index _ c.loop-place-test.true
    c.in_ok-add_sites_of_place.ensures c.loop-place.invariant

pub returns : goal.returns
returns c =
    all_done (λ p. place_sites (plain_source c.args.source.now) c.args.scopes.now c.args.owners.now (plain_place p)) (plain_sites c.loop-place.list.items) _ c.args.places.now c.loop-place.place-index c.loop-place-test.false c.loop-place.invariant
    ∙ (flat_map_map (place_sites (plain_source c.args.source.now) c.args.scopes.now c.args.owners.now) plain_place c.args.places.now
    ∙ sym (sites_are (plain_source c.args.source.now) c.args.scopes.now c.args.owners.now (map plain_place c.args.places.now)))
