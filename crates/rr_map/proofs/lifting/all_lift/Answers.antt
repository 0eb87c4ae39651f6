use Rattle.std.proofs.Common.{length, sym, drop}
use Rattle.rr_edit.specs.Lifted.{lifts}
use Rattle.rr_edit.specs.View.{plain_edit, plain_edits}
use Rattle.rr_map.proofs.Walks.{here, first, rest_test}
use Rattle.rr_map.proofs.lifting.all_lift.Goals as goal

pub lifts-requires-clause-order : goal.lifts-requires-clause-order
lifts-requires-clause-order c =
    (first _ (length c.args.origins.now) _ (plain_edit c.edit-item.result) _ (here c.args.edits.now c.loop-edit.edit-index c.edit-item.result c.loop-edit-test.true c.edit-item.is) c.loop-edit.invariant.order.1).order

pub lifts-requires-clause-within : goal.lifts-requires-clause-within
lifts-requires-clause-within c =
    (first _ (length c.args.origins.now) _ (plain_edit c.edit-item.result) _ (here c.args.edits.now c.loop-edit.edit-index c.edit-item.result c.loop-edit-test.true c.edit-item.is) c.loop-edit.invariant.order.1).within

pub loop-edit-preserved : goal.loop-edit-preserved
loop-edit-preserved c =
    let h = here c.args.edits.now c.loop-edit.edit-index c.edit-item.result c.loop-edit-test.true c.edit-item.is in
    record {
      lift = rest_test (lifts c.args.origins.now) (plain_edits (drop c.loop-edit.edit-index c.args.edits.now)) (plain_edit c.edit-item.result) _ _ h (sym c.if-not-lifts.ensures) c.loop-edit.invariant.lift;
      order = (_, (first _ (length c.args.origins.now) _ (plain_edit c.edit-item.result) _ h c.loop-edit.invariant.order.1).rest_order);
    }
