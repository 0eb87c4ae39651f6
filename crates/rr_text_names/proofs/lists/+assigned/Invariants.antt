use Rattle.std.proofs.Common.{◌≡◌, ◌++◌, map, drop}
use Rattle.std.specs.Prelude.{flat_map}
use Rattle.rr_syntax.specs.View.{plain_statement}
use Rattle.rr_flat.specs.Reads.{assigned_by}
use Rattle.rr_text_names.specs.View.{plain_target}
use Rattle.rr_text_names.proofs.lists.+assigned.Given as goal

abbrev pub invariant-add_assigned_by_all-loop-stmt : goal.invariant-add_assigned_by_all-loop-stmt
invariant-add_assigned_by_all-loop-stmt l =
    map plain_target l.list.items ++ flat_map (λ x. assigned_by (plain_statement x)) (drop l.stmt-index l.body)
    ≡ map plain_target l.fn.list.items ++ flat_map (λ x. assigned_by (plain_statement x)) l.body

abbrev pub invariant-add_assigned_by_arms-loop-arm : goal.invariant-add_assigned_by_arms-loop-arm
invariant-add_assigned_by_arms-loop-arm l =
    map plain_target l.list.items ++ flat_map (λ x. assigned_by (plain_statement x.body.now)) (drop l.arm-index l.arms)
    ≡ map plain_target l.fn.list.items ++ flat_map (λ x. assigned_by (plain_statement x.body.now)) l.arms
