use Rattle.std.proofs.Common.{◌∙◌, sym, ap, fold}
use Rattle.rr_syntax.specs.View.{plain_statement}
use Rattle.rr_loop_rules.specs.Rules.{with_new, loops_in}
use Rattle.rr_loop_rules.proofs.Folds.{fold_more, fold_done}
use Rattle.rr_loop_rules.proofs.LoopsOfNodes.{statement_list, arm_list}
use Rattle.rr_loop_rules.proofs.names.+loops.Goals as goal

pub add_loops_of_all-loop-stmt-preserved : goal.add_loops_of_all-loop-stmt-preserved
add_loops_of_all-loop-stmt-preserved t c =
    fold_more (λ x. loops_in (plain_statement x)) with_new c.loop-stmt.loops c.add_loops.new.loops c.args.body.now c.loop-stmt.stmt-index c.stmt-item.result c.loop-stmt-test.true c.stmt-item.is c.in_ok-add_loops.ensures
    ∙ c.loop-stmt.invariant

pub add_loops_of_all-returns : goal.add_loops_of_all-returns
add_loops_of_all-returns t c =
    sym (fold_done (λ x. loops_in (plain_statement x)) with_new c.loop-stmt.loops c.args.body.now c.loop-stmt.stmt-index c.loop-stmt-test.false)
    ∙ (c.loop-stmt.invariant ∙ ap (fold with_new c.args.loops.now) (sym (statement_list c.args.body.now)))

pub add_loops_of_arms-loop-arm-preserved : goal.add_loops_of_arms-loop-arm-preserved
add_loops_of_arms-loop-arm-preserved t c =
    fold_more (λ x. loops_in (plain_statement x.body.now)) with_new c.loop-arm.loops c.add_loops.new.loops c.args.arms.now c.loop-arm.arm-index c.arm-item.result c.loop-arm-test.true c.arm-item.is c.in_ok-add_loops.ensures
    ∙ c.loop-arm.invariant

pub add_loops_of_arms-returns : goal.add_loops_of_arms-returns
add_loops_of_arms-returns t c =
    sym (fold_done (λ x. loops_in (plain_statement x.body.now)) with_new c.loop-arm.loops c.args.arms.now c.loop-arm.arm-index c.loop-arm-test.false)
    ∙ (c.loop-arm.invariant ∙ ap (fold with_new c.args.loops.now) (sym (arm_list c.args.arms.now)))
