use Rattle.std.proofs.Common.{◌∙◌, sym}
use Rattle.rr_unfold.proofs.FreeNodes.{all_next, all_stops, all_end, arms_next, arms_stop, arms_end}
use Rattle.rr_unfold.proofs.freedom.+freedom.Goals as goal

pub all_loop_free-loop-stmt-preserved : goal.all_loop_free-loop-stmt-preserved
all_loop_free-loop-stmt-preserved t c =
    all_next c.args.body.now c.loop-stmt.stmt-index c.stmt-item.result c.loop-stmt-test.true c.stmt-item.is (sym c.is_loop_free.ensures ∙ c.if-not-is_loop_free.false) ∙ c.loop-stmt.invariant

pub all_loop_free-returns-then-not-is_loop_free : goal.all_loop_free-returns-then-not-is_loop_free
all_loop_free-returns-then-not-is_loop_free t c =
    sym (all_stops c.args.body.now c.loop-stmt.stmt-index c.stmt-item.result c.loop-stmt-test.true c.stmt-item.is (sym c.is_loop_free.ensures ∙ c.if-not-is_loop_free.true)) ∙ c.loop-stmt.invariant

pub all_loop_free-returns : goal.all_loop_free-returns
all_loop_free-returns t c = sym (all_end c.args.body.now c.loop-stmt.stmt-index c.loop-stmt-test.false) ∙ c.loop-stmt.invariant

pub arms_loop_free-loop-arm-preserved : goal.arms_loop_free-loop-arm-preserved
arms_loop_free-loop-arm-preserved t c =
    arms_next c.args.arms.now c.loop-arm.arm-index c.arm-item.result c.loop-arm-test.true c.arm-item.is (sym c.is_loop_free.ensures ∙ c.if-not-is_loop_free.false) ∙ c.loop-arm.invariant

pub arms_loop_free-returns-then-not-is_loop_free : goal.arms_loop_free-returns-then-not-is_loop_free
arms_loop_free-returns-then-not-is_loop_free t c =
    sym (arms_stop c.args.arms.now c.loop-arm.arm-index c.arm-item.result c.loop-arm-test.true c.arm-item.is (sym c.is_loop_free.ensures ∙ c.if-not-is_loop_free.true)) ∙ c.loop-arm.invariant

pub arms_loop_free-returns : goal.arms_loop_free-returns
arms_loop_free-returns t c = sym (arms_end c.args.arms.now c.loop-arm.arm-index c.loop-arm-test.false) ∙ c.loop-arm.invariant
