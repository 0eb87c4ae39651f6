use Rattle.std.proofs.Common.{◌≡◌, ◌++◌, drop}
use Rattle.std.specs.Prelude.{flat_map}
use Rattle.rr_syntax.specs.View.{plain_source}
use Rattle.rr_choice.specs.View.{plain_sites}
use Rattle.rr_clock.specs.View.{plain_place}
use Rattle.rr_sites_listed.specs.Listing.{place_sites}
use Rattle.rr_sites_listed.proofs.listing.listed.Given as goal

abbrev pub invariant-loop-place : goal.invariant-loop-place
invariant-loop-place l =
    plain_sites l.list.items ++ flat_map (λ p. place_sites (plain_source l.source) l.scopes l.owners (plain_place p)) (drop l.place-index l.places)
    ≡ flat_map (λ p. place_sites (plain_source l.source) l.scopes l.owners (plain_place p)) l.places
