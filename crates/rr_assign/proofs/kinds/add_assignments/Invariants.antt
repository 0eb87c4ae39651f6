use Rattle.std.proofs.Common.{◌≡◌, ◌++◌, map, drop}
use Rattle.rr_flat.specs.View.{plain_flat}
use Rattle.rr_text_names.specs.View.{plain_target}
use Rattle.rr_assign.specs.Kinds.{aim_of}
use Rattle.rr_assign.specs.View.{plain_aim}
use Rattle.rr_assign.proofs.kinds.add_assignments.Given as goal

abbrev pub invariant-loop-target : goal.invariant-loop-target
invariant-loop-target l =
    map (plain_aim (plain_flat l.flat)) l.list.items ++ map (aim_of (plain_flat l.flat) l.scope l.combinational) (map plain_target (drop l.target-index l.targets))
    ≡ map (plain_aim (plain_flat l.flat)) l.fn.list.items ++ map (aim_of (plain_flat l.flat) l.scope l.combinational) (map plain_target l.targets)
