use Rattle.std.proofs.Common.{◌∙◌, sym, ap, fold}
use Rattle.rr_syntax.specs.View.{plain}
use Rattle.rr_flat.specs.Faults.{sooner}
use Rattle.rr_loop_rules.specs.Rules.{target_strays}
use Rattle.rr_loop_rules.specs.View.{plain_around}
use Rattle.rr_loop_rules.proofs.Folds.{fold_more, fold_done}
use Rattle.rr_loop_rules.proofs.StrayNodes.{target_list}
use Rattle.rr_loop_rules.proofs.strays.+aiming.Goals as goal

pub note_targets-loop-target-preserved : goal.note_targets-loop-target-preserved
note_targets-loop-target-preserved t c =
    fold_more (λ x. target_strays c.args.names.now (plain_around c.args.around.now) (plain x)) sooner c.loop-target.found c.note_target-found.result c.args.targets.now c.loop-target.target-index c.target-item.result
    c.loop-target-test.true c.target-item.is c.note_target-found.ensures
    ∙ c.loop-target.invariant

pub note_targets-returns : goal.note_targets-returns
note_targets-returns t c =
    sym (fold_done (λ x. target_strays c.args.names.now (plain_around c.args.around.now) (plain x)) sooner c.loop-target.found c.args.targets.now c.loop-target.target-index c.loop-target-test.false)
    ∙ (c.loop-target.invariant ∙ ap (fold sooner c.args.found) (sym (target_list c.args.names.now (plain_around c.args.around.now) c.args.targets.now)))
