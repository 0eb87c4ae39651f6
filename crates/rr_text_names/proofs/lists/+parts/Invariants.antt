use Rattle.std.proofs.Common.{◌≡◌, ◌++◌, map, drop}
use Rattle.std.specs.Prelude.{flat_map}
use Rattle.rr_syntax.specs.View.{plain}
use Rattle.rr_flat.specs.Reads.{assigned_parts}
use Rattle.rr_flat.specs.Targets.{target_parts}
use Rattle.rr_text_names.specs.View.{plain_target}
use Rattle.rr_text_names.proofs.lists.+parts.Given as goal

abbrev pub invariant-add_parts_of_all-loop-target : goal.invariant-add_parts_of_all-loop-target
invariant-add_parts_of_all-loop-target l =
    map plain_target l.list.items ++ flat_map (λ x. assigned_parts l.now (target_parts (plain x))) (drop l.target-index l.targets)
    ≡ map plain_target l.fn.list.items ++ flat_map (λ x. assigned_parts l.now (target_parts (plain x))) l.targets
