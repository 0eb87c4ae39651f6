use Rattle.std.proofs.Common.{◌≡◌, ◌++◌, drop}
use Rattle.std.specs.Prelude.{flat_map}
use Rattle.rr_syntax.specs.View.{plain_statement}
use Rattle.rr_change_places.specs.Spots.{spots_of}
use Rattle.rr_change_places.specs.View.{plain_spots}
use Rattle.rr_change_places.proofs.Nodes.{arm_spots}
use Rattle.rr_change_places.proofs.walk.+statements.Given as goal

abbrev pub invariant-add_spots_of_all-loop-stmt : goal.invariant-add_spots_of_all-loop-stmt
invariant-add_spots_of_all-loop-stmt l =
    plain_spots l.list.items ++ flat_map (λ x. spots_of (plain_statement x)) (drop l.stmt-index l.body) ≡ plain_spots l.fn.list.items ++ flat_map (λ x. spots_of (plain_statement x)) l.body

abbrev pub invariant-add_spots_of_arms-loop-arm : goal.invariant-add_spots_of_arms-loop-arm
invariant-add_spots_of_arms-loop-arm l = plain_spots l.list.items ++ flat_map arm_spots (drop l.arm-index l.arms) ≡ plain_spots l.fn.list.items ++ flat_map arm_spots l.arms
