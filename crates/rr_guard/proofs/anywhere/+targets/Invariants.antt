use Rattle.std.proofs.Common.{◌≡◌, ◌++◌, map, drop}
use Rattle.std.specs.Prelude.{flat_map}
use Rattle.rr_syntax.specs.View.{plain_statement}
use Rattle.rr_text_names.specs.View.{plain_target}
use Rattle.rr_guard.specs.Anywhere.{assigned_anywhere}
use Rattle.rr_guard.proofs.anywhere.+targets.Given as goal

abbrev pub invariant-add_targets_of_all-loop-stmt : goal.invariant-add_targets_of_all-loop-stmt
invariant-add_targets_of_all-loop-stmt l =
    map plain_target l.list.items ++ flat_map (λ x. assigned_anywhere (plain_statement x)) (drop l.stmt-index l.body)
    ≡ map plain_target l.fn.list.items ++ flat_map (λ x. assigned_anywhere (plain_statement x)) l.body

abbrev pub invariant-add_targets_of_arms-loop-arm : goal.invariant-add_targets_of_arms-loop-arm
invariant-add_targets_of_arms-loop-arm l =
    map plain_target l.list.items ++ flat_map (λ x. assigned_anywhere (plain_statement x.body.now)) (drop l.arm-index l.arms)
    ≡ map plain_target l.fn.list.items ++ flat_map (λ x. assigned_anywhere (plain_statement x.body.now)) l.arms
