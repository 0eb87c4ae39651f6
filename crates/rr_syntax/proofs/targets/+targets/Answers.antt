use Rattle.std.proofs.Common.{◌∙◌, sym}
use Rattle.rr_syntax.proofs.TargetForms.{targets_next, targets_not, targets_start}
use Rattle.rr_syntax.proofs.targets.+targets.Goals as goal

pub are_targets-loop-part-init : goal.are_targets-loop-part-init
are_targets-loop-part-init t c = targets_start c.args.parts.now

pub are_targets-returns-then-not-is_target : goal.are_targets-returns-then-not-is_target
are_targets-returns-then-not-is_target t c = sym (targets_not c.args.parts.now c.loop-part.part-index c.part-item.result c.loop-part-test.true c.part-item.is (sym c.is_target.ensures ∙ c.if-not-is_target.true))

pub are_targets-loop-part-preserved : goal.are_targets-loop-part-preserved
are_targets-loop-part-preserved t c = targets_next c.args.parts.now c.loop-part.part-index c.part-item.result c.loop-part-test.true c.part-item.is c.loop-part.invariant (sym c.is_target.ensures ∙ c.if-not-is_target.false)
