use Rattle.std.proofs.Common.{◌≡◌, drop, fold}
use Rattle.std.specs.Prelude.{flat_map}
use Rattle.rr_syntax.specs.View.{plain}
use Rattle.rr_flat.specs.Faults.{sooner}
use Rattle.rr_loop_rules.specs.Rules.{target_strays}
use Rattle.rr_loop_rules.specs.View.{plain_around}
use Rattle.rr_loop_rules.proofs.strays.+aiming.Given as goal

abbrev pub invariant-note_targets-loop-target : goal.invariant-note_targets-loop-target
invariant-note_targets-loop-target l =
    fold sooner l.found (flat_map (λ x. target_strays l.names (plain_around l.around) (plain x)) (drop l.target-index l.targets))
    ≡ fold sooner l.fn.found (flat_map (λ x. target_strays l.names (plain_around l.around) (plain x)) l.targets)
