use Rattle.std.proofs.Common.{◌∙◌, sym, length}
use Rattle.std.proofs.lemmas.Bool.{eqb-true}
use Rattle.rr_latch.proofs.Branching.{default_here, default_later, default_none, positive}
use Rattle.rr_latch.proofs.branches.has_default.Goals as goal

pub returns-then-is_empty : goal.returns-then-is_empty
returns-then-is_empty c =
    sym (default_here c.args.arms.now c.loop-arm.arm-index c.arm-item.result c.loop-arm-test.true c.arm-item.is (eqb-true (length c.arm-item.result.labels.now) 0 (sym c.is_empty.ensures ∙ c.if-is_empty.true)))
    ∙ c.loop-arm.invariant

pub loop-arm-preserved : goal.loop-arm-preserved
loop-arm-preserved c =
    default_later c.args.arms.now c.loop-arm.arm-index c.arm-item.result c.loop-arm-test.true c.arm-item.is (positive (length c.arm-item.result.labels.now) (sym c.is_empty.ensures ∙ c.if-is_empty.false))
    ∙ c.loop-arm.invariant

pub returns : goal.returns
returns c = sym (default_none c.args.arms.now c.loop-arm.arm-index c.loop-arm-test.false) ∙ c.loop-arm.invariant
