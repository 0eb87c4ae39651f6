-- What spots in the arena stand for.
use Rattle.std.specs.Prelude.{List, map}
use Rattle.rr_syntax.specs.View.{plain, plain_statement}
use Rattle.rr_change_places.specs.declared.spot.Spot.{Spot as ArenaSpot}
use Rattle.rr_change_places.specs.declared.spot.Spot.TheVariants as arena
use Rattle.rr_change_places.specs.Spots.{Spot, Body, Test, Value}

abbrev pub plain_spot : ArenaSpot → Spot
plain_spot (arena.Body s) = Body (plain_statement s.now)
plain_spot (arena.Test t) = Test (plain t.now)
plain_spot (arena.Value token n) = Value token n

abbrev pub plain_spots : List ArenaSpot → List Spot
plain_spots spots = map plain_spot spots
