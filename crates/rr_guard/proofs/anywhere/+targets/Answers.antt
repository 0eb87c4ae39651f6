use Rattle.std.proofs.Common.{◌∙◌, sym, ap, ◌++◌, map}
use Rattle.rr_syntax.specs.View.{plain_statement}
use Rattle.rr_text_names.specs.View.{plain_target}
use Rattle.rr_change_places.proofs.Walks.{one_more, all_done}
use Rattle.rr_guard.specs.Anywhere.{assigned_anywhere}
use Rattle.rr_guard.proofs.AnywhereNodes.{anywhere_list, anywhere_arms}
use Rattle.rr_guard.proofs.anywhere.+targets.Goals as goal

pub add_targets_of_all-loop-stmt-preserved : goal.add_targets_of_all-loop-stmt-preserved
add_targets_of_all-loop-stmt-preserved t c =
    one_more (λ x. assigned_anywhere (plain_statement x)) (map plain_target c.loop-stmt.list.items) _ _ c.args.body.now c.loop-stmt.stmt-index c.stmt-item.result c.loop-stmt-test.true c.stmt-item.is c.in_ok-add_targets.ensures c.loop-stmt.invariant

pub add_targets_of_all-returns : goal.add_targets_of_all-returns
add_targets_of_all-returns t c =
    all_done (λ x. assigned_anywhere (plain_statement x)) (map plain_target c.loop-stmt.list.items) _ c.args.body.now c.loop-stmt.stmt-index c.loop-stmt-test.false c.loop-stmt.invariant
    ∙ ap (λ z. map plain_target c.args.list.now.items ++ z) (sym (anywhere_list c.args.body.now))

pub add_targets_of_arms-loop-arm-preserved : goal.add_targets_of_arms-loop-arm-preserved
add_targets_of_arms-loop-arm-preserved t c =
    one_more (λ x. assigned_anywhere (plain_statement x.body.now)) (map plain_target c.loop-arm.list.items) _ _ c.args.arms.now c.loop-arm.arm-index c.arm-item.result c.loop-arm-test.true c.arm-item.is c.in_ok-add_targets.ensures c.loop-arm.invariant

pub add_targets_of_arms-returns : goal.add_targets_of_arms-returns
add_targets_of_arms-returns t c =
    all_done (λ x. assigned_anywhere (plain_statement x.body.now)) (map plain_target c.loop-arm.list.items) _ c.args.arms.now c.loop-arm.arm-index c.loop-arm-test.false c.loop-arm.invariant
    ∙ ap (λ z. map plain_target c.args.list.now.items ++ z) (sym (anywhere_arms c.args.arms.now))
