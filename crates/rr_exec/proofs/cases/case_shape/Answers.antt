use Rattle.std.proofs.Common.{arith}
use Rattle.rr_syntax.specs.View.{plain, plain_arms}
use Rattle.rr_expr.specs.Values.{form}
use Rattle.rr_exec.proofs.Loops.{arm_labels_shaped, arms_more, arms_done, arms_high}
use Rattle.rr_exec.proofs.cases.case_shape.Goals as goal

pub joined_all-all-requires-clause-shaped : goal.joined_all-all-requires-clause-shaped
joined_all-all-requires-clause-shaped c = arm_labels_shaped c.args.scope.now c.args.arms.now c.loop-arm.arm-index c.arm-item.result c.loop-arm-test.true c.arm-item.is c.requires.arms

pub loop-arm-preserved : goal.loop-arm-preserved
loop-arm-preserved c = record {
  shape = rw c.joined_all-all.ensures.value (arms_more c.args.scope.now c.args.arms.now c.loop-arm.arm-index c.arm-item.result c.loop-arm.all _ c.loop-arm-test.true c.arm-item.is c.loop-arm.invariant.shape);
  low = omega arith;
  high = c.joined_all-all.ensures.high;
}

pub returns-clause-value : goal.returns-clause-value
returns-clause-value c = arms_done c.args.scope.now c.args.arms.now c.loop-arm.arm-index c.loop-arm.all _ c.loop-arm-test.false c.loop-arm.invariant.shape

pub returns-clause-narrow : goal.returns-clause-narrow
returns-clause-narrow c =
    arms_high c.args.scope.now (form c.args.scope.now (plain c.args.on.now)) c.loop-arm.all (plain_arms c.args.arms.now)
    (arms_done c.args.scope.now c.args.arms.now c.loop-arm.arm-index c.loop-arm.all _ c.loop-arm-test.false c.loop-arm.invariant.shape)
