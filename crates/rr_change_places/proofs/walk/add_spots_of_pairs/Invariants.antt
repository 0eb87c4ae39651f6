use Rattle.std.proofs.Common.{◌≡◌, ◌++◌, drop}
use Rattle.std.specs.Prelude.{flat_map}
use Rattle.rr_syntax.specs.View.{plain_pair}
use Rattle.rr_change_places.specs.Spots.{spots_of_pair}
use Rattle.rr_change_places.specs.View.{plain_spots}
use Rattle.rr_change_places.proofs.walk.add_spots_of_pairs.Given as goal

abbrev pub invariant-loop-pair : goal.invariant-loop-pair
invariant-loop-pair l =
    plain_spots l.list.items ++ flat_map (λ x. spots_of_pair (plain_pair x)) (drop l.pair-index l.pairs) ≡ plain_spots l.fn.list.items ++ flat_map (λ x. spots_of_pair (plain_pair x)) l.pairs
