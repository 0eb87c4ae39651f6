use Rattle.std.proofs.Common.{◌∙◌, sym, ap, drop, fold, ◌+◌}
use Rattle.rr_syntax.specs.View.{plain_list}
use Rattle.rr_flat.specs.Faults.{earlier}
use Rattle.rr_flat.specs.Shapes.{list_faults}
use Rattle.rr_flatten.proofs.NotesOfNodes.{list_more, list_done}
use Rattle.rr_flatten.proofs.notes.earliest_list.Goals as goal

pub loop-expr-preserved : goal.loop-expr-preserved
loop-expr-preserved c =
    ap (λ z. fold earlier z (list_faults c.args.names.now (plain_list (drop (c.loop-expr.expr-index + 1) c.args.list.now)))) c.earliest_shape-found.ensures
    ∙ (list_more earlier c.loop-expr.found c.args.names.now c.args.list.now c.loop-expr.expr-index c.expr-item.result c.loop-expr-test.true c.expr-item.is ∙ c.loop-expr.invariant)

pub returns : goal.returns
returns c = sym (list_done earlier c.loop-expr.found c.args.names.now c.args.list.now c.loop-expr.expr-index c.loop-expr-test.false) ∙ c.loop-expr.invariant
