use Rattle.std.proofs.Common.{◌≡◌, ◌++◌, map, drop}
use Rattle.std.specs.Prelude.{flat_map}
use Rattle.rr_flat.specs.View.{plain_flat}
use Rattle.rr_assign.specs.Kinds.{aims, aims_of_part}
use Rattle.rr_assign.specs.View.{plain_aim}
use Rattle.rr_assign.proofs.kinds.assignments.Given as goal

abbrev pub invariant-loop-part : goal.invariant-loop-part
invariant-loop-part l =
    map (plain_aim (plain_flat l.flat)) l.list.items ++ flat_map (aims_of_part (plain_flat l.flat)) (drop l.part-index l.walk) ≡ aims (plain_flat l.flat)
