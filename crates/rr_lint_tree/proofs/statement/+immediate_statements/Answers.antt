use Rattle.std.proofs.Common.{ap, sym, ◌∙◌}
use Rattle.rr_syntax.specs.Tree.{CaseItem}
use Rattle.rr_syntax.specs.View.{plain_list}
use Rattle.rr_lint_tree.proofs.Trees.{statements_none, statements_more, arms_none, arms_more, arm_immediate}
use Rattle.rr_lint_tree.proofs.statement.+immediate_statements.Goals as goal

pub immediates-loop-stmt-init : goal.immediates-loop-stmt-init
immediates-loop-stmt-init t c = statements_none c.new-list.result.items c.new-list.ensures.items

pub immediates-loop-stmt-preserved : goal.immediates-loop-stmt-preserved
immediates-loop-stmt-preserved t c =
    statements_more c.loop-stmt.list.items c.add_statement.new.list.items c.args.body.now c.loop-stmt.stmt-index c.stmt-item.result c.in_ok-new.new c.loop-stmt-test.true c.stmt-item.is c.loop-stmt.invariant c.in_ok-new.ensures c.in_ok-add_statement.ensures

pub immediate_arms-loop-arm-init : goal.immediate_arms-loop-arm-init
immediate_arms-loop-arm-init t c = arms_none c.new-list.result.items c.new-list.ensures.items

pub immediate_arms-loop-arm-preserved : goal.immediate_arms-loop-arm-preserved
immediate_arms-loop-arm-preserved t c =
    arms_more c.loop-arm.list.items c.add_arm.new.list.items c.args.arms.now c.loop-arm.arm-index c.arm-item.result c.in_ok-new.new c.loop-arm-test.true c.arm-item.is c.loop-arm.invariant
    (c.in_ok-new.ensures ∙ ap (λ y. CaseItem (plain_list c.arm-item.result.labels.now) c.arm-item.result.colon y) c.in_ok-body.ensures ∙ sym (arm_immediate c.arm-item.result)) c.in_ok-add_arm.ensures
