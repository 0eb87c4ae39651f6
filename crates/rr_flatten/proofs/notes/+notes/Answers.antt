use Rattle.std.proofs.Common.{◌∙◌, sym, ap, drop, fold, ◌+◌}
use Rattle.rr_syntax.specs.View.{plain_statement, plain_statements, plain_arms}
use Rattle.rr_flat.specs.Faults.{earlier}
use Rattle.rr_flat.specs.Shapes.{statement_faults, statements_faults, arms_faults}
use Rattle.rr_flatten.proofs.NotesOfNodes.{statements_more, statements_done, arms_more, arms_done}
use Rattle.rr_flatten.proofs.notes.+notes.Goals as goal

pub note_statements-loop-stmt-preserved : goal.note_statements-loop-stmt-preserved
note_statements-loop-stmt-preserved t c =
    ap (λ z. fold earlier z (statements_faults c.args.names.now (plain_statements (drop (c.loop-stmt.stmt-index + 1) c.args.body.now)))) c.note_statement-found.ensures
    ∙ (statements_more c.loop-stmt.found c.args.names.now c.args.body.now c.loop-stmt.stmt-index c.stmt-item.result c.loop-stmt-test.true c.stmt-item.is ∙ c.loop-stmt.invariant)

pub note_statements-returns : goal.note_statements-returns
note_statements-returns t c = sym (statements_done c.loop-stmt.found c.args.names.now c.args.body.now c.loop-stmt.stmt-index c.loop-stmt-test.false) ∙ c.loop-stmt.invariant

pub note_arms-loop-arm-preserved : goal.note_arms-loop-arm-preserved
note_arms-loop-arm-preserved t c =
    ap (λ z. fold earlier z (arms_faults c.args.names.now (plain_arms (drop (c.loop-arm.arm-index + 1) c.args.arms.now))))
    (c.note_statement-found.ensures ∙ ap (λ z. fold earlier z (statement_faults c.args.names.now (plain_statement c.arm-item.result.body.now))) c.earliest_list-found.ensures)
    ∙ (arms_more c.loop-arm.found c.args.names.now c.args.arms.now c.loop-arm.arm-index c.arm-item.result c.loop-arm-test.true c.arm-item.is ∙ c.loop-arm.invariant)

pub note_arms-returns : goal.note_arms-returns
note_arms-returns t c = sym (arms_done c.loop-arm.found c.args.names.now c.args.arms.now c.loop-arm.arm-index c.loop-arm-test.false) ∙ c.loop-arm.invariant
