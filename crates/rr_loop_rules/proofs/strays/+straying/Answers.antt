use Rattle.std.proofs.Common.{◌∙◌, sym, ap, fold}
use Rattle.rr_syntax.specs.View.{plain}
use Rattle.rr_flat.specs.Faults.{sooner}
use Rattle.rr_loop_rules.specs.Rules.{strays}
use Rattle.rr_loop_rules.specs.View.{plain_around}
use Rattle.rr_loop_rules.proofs.Folds.{fold_more, fold_done}
use Rattle.rr_loop_rules.proofs.StrayNodes.{part_list}
use Rattle.rr_loop_rules.proofs.strays.+straying.Goals as goal

pub note_parts_inside-loop-expr-preserved : goal.note_parts_inside-loop-expr-preserved
note_parts_inside-loop-expr-preserved t c =
    fold_more (λ x. strays c.args.names.now (plain_around c.args.around.now) (plain x)) sooner c.loop-expr.found c.note_strays_inside-found.result c.args.list.now c.loop-expr.expr-index c.expr-item.result
    c.loop-expr-test.true c.expr-item.is c.note_strays_inside-found.ensures
    ∙ c.loop-expr.invariant

pub note_parts_inside-returns : goal.note_parts_inside-returns
note_parts_inside-returns t c =
    sym (fold_done (λ x. strays c.args.names.now (plain_around c.args.around.now) (plain x)) sooner c.loop-expr.found c.args.list.now c.loop-expr.expr-index c.loop-expr-test.false)
    ∙ (c.loop-expr.invariant ∙ ap (fold sooner c.args.found) (sym (part_list c.args.names.now (plain_around c.args.around.now) c.args.list.now)))
