use Rattle.std.proofs.Common.{◌≡◌, refl, rules, true}
use Rattle.rr_syntax.specs.View.{plain_arms, plain_statements}
use Rattle.rr_flat.specs.Shapes.{statement_faults}
use Rattle.rr_cycle_tests.proofs.Declaring.{arms_more, statements_more}
use Rattle.rr_cycle_tests.proofs.statements.+shaped.Goals as goal

pub are_shaped-loop-stmt-init : goal.are_shaped-loop-stmt-init
unfolding plain_statements statement_faults
are_shaped-loop-stmt-init t c = refl

pub are_shaped-loop-stmt-preserved : goal.are_shaped-loop-stmt-preserved
are_shaped-loop-stmt-preserved t c =
    let h : c.is_shaped.result ≡ true = search rules in
    statements_more c.args.scope.now c.args.body.now c.loop-stmt.stmt-index c.stmt-item.result c.loop-stmt-test.true c.stmt-item.is c.loop-stmt.invariant (c.is_shaped.ensures h)

pub arms_are_shaped-loop-arm-init : goal.arms_are_shaped-loop-arm-init
unfolding plain_arms statement_faults
arms_are_shaped-loop-arm-init t c = refl

pub arms_are_shaped-loop-arm-preserved : goal.arms_are_shaped-loop-arm-preserved
arms_are_shaped-loop-arm-preserved t c =
    let h : c.have_shapes.result ≡ true = search rules in
    let k : c.is_shaped.result ≡ true = search rules in
    arms_more c.args.scope.now c.args.arms.now c.loop-arm.arm-index c.arm-item.result c.loop-arm-test.true c.arm-item.is c.loop-arm.invariant (c.have_shapes.ensures h) (c.is_shaped.ensures k)
