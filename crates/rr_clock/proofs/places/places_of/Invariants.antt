use Rattle.std.proofs.Common.{◌≡◌, ◌++◌, map, drop}
use Rattle.rr_clock.specs.Places.{place_of}
use Rattle.rr_clock.specs.View.{plain_name, plain_place}
use Rattle.rr_clock.proofs.places.places_of.Given as goal

abbrev pub invariant-loop-owner : goal.invariant-loop-owner
invariant-loop-owner l = map plain_place l.places.items ++ map (place_of (map plain_name l.names)) (drop l.owner-index l.owners) ≡ map (place_of (map plain_name l.names)) l.owners
