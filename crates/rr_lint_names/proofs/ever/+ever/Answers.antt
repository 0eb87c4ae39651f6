use Rattle.std.proofs.Common.{◌∙◌, sym, ap, ◌++◌, ◌+◌, map, drop}
use Rattle.std.specs.Prelude.{flat_map}
use Rattle.rr_syntax.specs.View.{plain_statement}
use Rattle.rr_lint_laws.specs.Ever.{ever_assigned}
use Rattle.rr_text_names.specs.View.{plain_target}
use Rattle.rr_text_names.proofs.Walks.{add_more, add_done}
use Rattle.rr_lint_names.proofs.EverOfNodes.{ever_list, ever_arms}
use Rattle.rr_lint_names.proofs.ever.+ever.Goals as goal

pub add_ever_assigned_by_all-loop-stmt-preserved : goal.add_ever_assigned_by_all-loop-stmt-preserved
add_ever_assigned_by_all-loop-stmt-preserved t c =
    ap (λ z. z ++ flat_map (λ x. ever_assigned (plain_statement x)) (drop (c.loop-stmt.stmt-index + 1) c.args.body.now)) c.in_ok-add_ever_assigned.ensures
    ∙ (add_more (λ x. ever_assigned (plain_statement x)) (map plain_target c.loop-stmt.list.items) c.args.body.now c.loop-stmt.stmt-index c.stmt-item.result c.loop-stmt-test.true c.stmt-item.is
    ∙ c.loop-stmt.invariant)

pub add_ever_assigned_by_all-returns : goal.add_ever_assigned_by_all-returns
add_ever_assigned_by_all-returns t c =
    sym (add_done (λ x. ever_assigned (plain_statement x)) (map plain_target c.loop-stmt.list.items) c.args.body.now c.loop-stmt.stmt-index c.loop-stmt-test.false)
    ∙ (c.loop-stmt.invariant ∙ ap (λ z. map plain_target c.args.list.now.items ++ z) (sym (ever_list c.args.body.now)))

pub add_ever_assigned_by_arms-loop-arm-preserved : goal.add_ever_assigned_by_arms-loop-arm-preserved
add_ever_assigned_by_arms-loop-arm-preserved t c =
    ap (λ z. z ++ flat_map (λ x. ever_assigned (plain_statement x.body.now)) (drop (c.loop-arm.arm-index + 1) c.args.arms.now)) c.in_ok-add_ever_assigned.ensures
    ∙ (add_more (λ x. ever_assigned (plain_statement x.body.now)) (map plain_target c.loop-arm.list.items) c.args.arms.now c.loop-arm.arm-index c.arm-item.result c.loop-arm-test.true c.arm-item.is
    ∙ c.loop-arm.invariant)

pub add_ever_assigned_by_arms-returns : goal.add_ever_assigned_by_arms-returns
add_ever_assigned_by_arms-returns t c =
    sym (add_done (λ x. ever_assigned (plain_statement x.body.now)) (map plain_target c.loop-arm.list.items) c.args.arms.now c.loop-arm.arm-index c.loop-arm-test.false)
    ∙ (c.loop-arm.invariant ∙ ap (λ z. map plain_target c.args.list.now.items ++ z) (sym (ever_arms c.args.arms.now)))
