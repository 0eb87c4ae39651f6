use Rattle.std.proofs.Common.{◌≡◌, ◌++◌, drop}
use Rattle.std.specs.Prelude.{flat_map}
use Rattle.rr_syntax.specs.View.{plain_declarator}
use Rattle.rr_change_places.specs.Spots.{spots_of_net}
use Rattle.rr_change_places.specs.View.{plain_spots}
use Rattle.rr_change_places.proofs.walk.add_spots_of_nets.Given as goal

abbrev pub invariant-loop-net : goal.invariant-loop-net
invariant-loop-net l =
    plain_spots l.list.items ++ flat_map (λ x. spots_of_net (plain_declarator x)) (drop l.net-index l.nets) ≡ plain_spots l.fn.list.items ++ flat_map (λ x. spots_of_net (plain_declarator x)) l.nets
