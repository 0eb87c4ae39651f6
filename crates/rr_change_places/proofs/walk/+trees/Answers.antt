use Rattle.std.proofs.Common.{◌∙◌, sym, ap, ◌++◌}
use Rattle.rr_syntax.specs.View.{plain}
use Rattle.rr_change_places.specs.Spots.{spots}
use Rattle.rr_change_places.specs.View.{plain_spots}
use Rattle.rr_change_places.proofs.Nodes.{parts_list}
use Rattle.rr_change_places.proofs.Walks.{one_more, all_done}
use Rattle.rr_change_places.proofs.walk.+trees.Goals as goal

pub add_spots_of_parts-loop-expr-preserved : goal.add_spots_of_parts-loop-expr-preserved
add_spots_of_parts-loop-expr-preserved t c =
    one_more (λ x. spots (plain x)) (plain_spots c.loop-expr.list.items) _ _ c.args.exprs.now c.loop-expr.expr-index c.expr-item.result c.loop-expr-test.true c.expr-item.is c.in_ok-add_spots.ensures c.loop-expr.invariant

pub add_spots_of_parts-returns : goal.add_spots_of_parts-returns
add_spots_of_parts-returns t c =
    all_done (λ x. spots (plain x)) (plain_spots c.loop-expr.list.items) _ c.args.exprs.now c.loop-expr.expr-index c.loop-expr-test.false c.loop-expr.invariant
    ∙ ap (λ z. plain_spots c.args.list.now.items ++ z) (sym (parts_list c.args.exprs.now))
