use Rattle.std.proofs.Common.{◌∙◌, sym, ap, ◌++◌, append_assoc}
use Rattle.rr_syntax.specs.View.{plain_list, plain_statement}
use Rattle.rr_change_places.specs.Spots.{spots_of_parts, spots_of}
use Rattle.rr_change_places.specs.View.{plain_spots}
use Rattle.rr_change_places.proofs.Nodes.{statements_list, arms_list, arm_spots}
use Rattle.rr_change_places.proofs.Walks.{one_more, all_done}
use Rattle.rr_change_places.proofs.walk.+statements.Goals as goal

pub add_spots_of_all-loop-stmt-preserved : goal.add_spots_of_all-loop-stmt-preserved
add_spots_of_all-loop-stmt-preserved t c =
    one_more (λ x. spots_of (plain_statement x)) (plain_spots c.loop-stmt.list.items) _ _ c.args.body.now c.loop-stmt.stmt-index c.stmt-item.result c.loop-stmt-test.true c.stmt-item.is c.in_ok-add_spots_of.ensures c.loop-stmt.invariant

pub add_spots_of_all-returns : goal.add_spots_of_all-returns
add_spots_of_all-returns t c =
    all_done (λ x. spots_of (plain_statement x)) (plain_spots c.loop-stmt.list.items) _ c.args.body.now c.loop-stmt.stmt-index c.loop-stmt-test.false c.loop-stmt.invariant
    ∙ ap (λ z. plain_spots c.args.list.now.items ++ z) (sym (statements_list c.args.body.now))

pub add_spots_of_arms-loop-arm-preserved : goal.add_spots_of_arms-loop-arm-preserved
add_spots_of_arms-loop-arm-preserved t c =
    let x = c.arm-item.result in
    let now = plain_spots c.loop-arm.list.items in
    one_more arm_spots now _ _ c.args.arms.now c.loop-arm.arm-index x c.loop-arm-test.true c.arm-item.is
    (c.in_ok-add_spots_of.ensures ∙ (ap (λ z. z ++ spots_of (plain_statement x.body.now)) c.in_ok-add_spots_of_parts.ensures
    ∙ append_assoc now (spots_of_parts (plain_list x.labels.now)) (spots_of (plain_statement x.body.now))))
    c.loop-arm.invariant

pub add_spots_of_arms-returns : goal.add_spots_of_arms-returns
add_spots_of_arms-returns t c =
    all_done arm_spots (plain_spots c.loop-arm.list.items) _ c.args.arms.now c.loop-arm.arm-index c.loop-arm-test.false c.loop-arm.invariant
    ∙ ap (λ z. plain_spots c.args.list.now.items ++ z) (sym (arms_list c.args.arms.now))
