use Rattle.std.proofs.Common.{◌∙◌, sym, ap, fold}
use Rattle.rr_syntax.specs.View.{plain_list, plain_statement}
use Rattle.rr_flat.specs.Faults.{sooner}
use Rattle.rr_loop_rules.specs.Rules.{part_strays, loop_faults}
use Rattle.rr_loop_rules.specs.View.{plain_around}
use Rattle.rr_loop_rules.proofs.Folds.{fold_more, fold_done}
use Rattle.rr_loop_rules.proofs.StatementNodes.{statement_list, of_arm, arm_list, arm_noted}
use Rattle.rr_loop_rules.proofs.statements.+noting.Goals as goal

pub note_all_inside-loop-stmt-preserved : goal.note_all_inside-loop-stmt-preserved
note_all_inside-loop-stmt-preserved t c =
    let around = plain_around c.args.around.now.items in
    let h = c.in_ok-found.ensures.faults ∙ ap (λ ys. fold sooner c.loop-stmt.found (loop_faults c.args.names.now ys (plain_statement c.stmt-item.result))) c.loop-stmt.invariant.kept in
    record {
      kept = c.in_ok-found.ensures.kept ∙ c.loop-stmt.invariant.kept;
      noted = fold_more (λ x. loop_faults c.args.names.now around (plain_statement x)) sooner c.loop-stmt.found c.in_ok-found.found c.args.body.now c.loop-stmt.stmt-index c.stmt-item.result c.loop-stmt-test.true c.stmt-item.is h ∙ c.loop-stmt.invariant.noted;
    }

pub note_all_inside-returns-clause-faults : goal.note_all_inside-returns-clause-faults
note_all_inside-returns-clause-faults t c =
    let around = plain_around c.args.around.now.items in
    sym (fold_done (λ x. loop_faults c.args.names.now around (plain_statement x)) sooner c.loop-stmt.found c.args.body.now c.loop-stmt.stmt-index c.loop-stmt-test.false)
    ∙ (c.loop-stmt.invariant.noted ∙ ap (fold sooner c.args.found) (sym (statement_list c.args.names.now around c.args.body.now)))

pub note_arms_inside-loop-arm-preserved : goal.note_arms_inside-loop-arm-preserved
note_arms_inside-loop-arm-preserved t c =
    let around = plain_around c.args.around.now.items in
    let labels = c.note_parts_inside-found.ensures
    ∙ ap (λ ys. fold sooner c.loop-arm.found (part_strays c.args.names.now ys (plain_list c.arm-item.result.labels.now))) (ap plain_around c.as_slice.ensures.value ∙ c.loop-arm.invariant.kept) in
    let h = c.in_ok-found.ensures.faults
    ∙ (ap (λ ys. fold sooner c.note_parts_inside-found.result (loop_faults c.args.names.now ys (plain_statement c.arm-item.result.body.now))) c.loop-arm.invariant.kept
    ∙ (ap (λ z. fold sooner z (loop_faults c.args.names.now around (plain_statement c.arm-item.result.body.now))) labels
    ∙ sym (arm_noted c.loop-arm.found c.args.names.now around c.arm-item.result))) in
    record {
      kept = c.in_ok-found.ensures.kept ∙ c.loop-arm.invariant.kept;
      noted = fold_more (of_arm c.args.names.now around) sooner c.loop-arm.found c.in_ok-found.found c.args.arms.now c.loop-arm.arm-index c.arm-item.result c.loop-arm-test.true c.arm-item.is h ∙ c.loop-arm.invariant.noted;
    }

pub note_arms_inside-returns-clause-faults : goal.note_arms_inside-returns-clause-faults
note_arms_inside-returns-clause-faults t c =
    let around = plain_around c.args.around.now.items in
    sym (fold_done (of_arm c.args.names.now around) sooner c.loop-arm.found c.args.arms.now c.loop-arm.arm-index c.loop-arm-test.false)
    ∙ (c.loop-arm.invariant.noted ∙ ap (fold sooner c.args.found) (sym (arm_list c.args.names.now around c.args.arms.now)))
