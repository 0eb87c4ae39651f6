use Rattle.std.proofs.Common.{◌≡◌, drop}
use Rattle.std.specs.Prelude.{flat_map}
use Rattle.rr_syntax.specs.View.{plain_statement}
use Rattle.rr_text_names.specs.Firsts.{earliest}
use Rattle.rr_assign.specs.Labels.{wild_in}
use Rattle.rr_assign.proofs.WildNodes.{arm_wild}
use Rattle.rr_assign.proofs.labels.+wild.Given as goal

abbrev pub invariant-first_in_all-loop-stmt : goal.invariant-first_in_all-loop-stmt
invariant-first_in_all-loop-stmt l =
    earliest (flat_map (λ x. wild_in (plain_statement x)) (drop l.stmt-index l.body)) ≡ earliest (flat_map (λ x. wild_in (plain_statement x)) l.body)

abbrev pub invariant-first_in_arms-loop-arm : goal.invariant-first_in_arms-loop-arm
invariant-first_in_arms-loop-arm l =
    earliest (flat_map (arm_wild l.kind.0) (drop l.arm-index l.arms)) ≡ earliest (flat_map (arm_wild l.kind.0) l.arms)
