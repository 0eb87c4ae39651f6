use Rattle.std.proofs.Common.{◌∙◌, sym, ap, ◌++◌, ◌+◌, map, drop}
use Rattle.std.specs.Prelude.{flat_map}
use Rattle.rr_syntax.specs.View.{plain, plain_identifier}
use Rattle.rr_flat.specs.Reads.{names_in}
use Rattle.rr_text_names.proofs.Walks.{add_more, add_done}
use Rattle.rr_text_names.proofs.NamesOfNodes.{names_list}
use Rattle.rr_text_names.proofs.lists.+names.Goals as goal

pub add_names_of_all-loop-expr-preserved : goal.add_names_of_all-loop-expr-preserved
add_names_of_all-loop-expr-preserved t c =
    ap (λ z. z ++ flat_map (λ x. names_in (plain x)) (drop (c.loop-expr.expr-index + 1) c.args.exprs.now)) c.in_ok-add_names.ensures
    ∙ (add_more (λ x. names_in (plain x)) (map plain_identifier c.loop-expr.list.items) c.args.exprs.now c.loop-expr.expr-index c.expr-item.result c.loop-expr-test.true c.expr-item.is
    ∙ c.loop-expr.invariant)

pub add_names_of_all-returns : goal.add_names_of_all-returns
add_names_of_all-returns t c =
    sym (add_done (λ x. names_in (plain x)) (map plain_identifier c.loop-expr.list.items) c.args.exprs.now c.loop-expr.expr-index c.loop-expr-test.false)
    ∙ (c.loop-expr.invariant ∙ ap (λ z. map plain_identifier c.args.list.now.items ++ z) (sym (names_list c.args.exprs.now)))
