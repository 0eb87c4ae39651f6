use Rattle.std.proofs.Common.{◌≡◌, ◌++◌, map, drop}
use Rattle.std.specs.Prelude.{flat_map}
use Rattle.rr_text_names.specs.View.{plain_target}
use Rattle.rr_overwrite.specs.Overwrites.{first_targets as first_targets_of, whole_target}
use Rattle.rr_overwrite.specs.Variables.{plain_whole}
use Rattle.rr_overwrite.proofs.FirstTargets.{gathered}
use Rattle.rr_overwrite.proofs.targets.first_targets.Given as goal

abbrev pub invariant-loop-target : goal.invariant-loop-target
invariant-loop-target l = map plain_whole l.list.items ++ gathered l.seen (map plain_target (drop l.target-index l.targets)) ≡ first_targets_of (flat_map whole_target (map plain_target l.targets))
