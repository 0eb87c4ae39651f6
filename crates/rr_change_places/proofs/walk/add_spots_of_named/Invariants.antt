use Rattle.std.proofs.Common.{◌≡◌, ◌++◌, drop}
use Rattle.std.specs.Prelude.{flat_map}
use Rattle.rr_syntax.specs.View.{plain_connection}
use Rattle.rr_change_places.specs.Spots.{spots_of_connection}
use Rattle.rr_change_places.specs.View.{plain_spots}
use Rattle.rr_change_places.proofs.walk.add_spots_of_named.Given as goal

abbrev pub invariant-loop-one : goal.invariant-loop-one
invariant-loop-one l =
    plain_spots l.list.items ++ flat_map (λ x. spots_of_connection (plain_connection x)) (drop l.one-index l.named) ≡ plain_spots l.fn.list.items ++ flat_map (λ x. spots_of_connection (plain_connection x)) l.named
