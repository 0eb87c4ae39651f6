use Rattle.rr_edit.specs.Edits.{edited}
use Rattle.rr_edit.specs.View.{plain_edits}
use Rattle.rr_map.specs.Moves.{all_moved}
use Rattle.rr_map.proofs.Walks.{step, made_next, moves_next, end_within, made_end}
use Rattle.rr_map.proofs.lifting.make_all.Goals as goal

pub make-requires-clause-order : goal.make-requires-clause-order
make-requires-clause-order c = (step c.args.file.now c.args.origins.now c.args.edits.now c.loop-edit.at c.loop-edit.edit-index c.loop-edit.invariant.order.0 c.loop-edit.invariant.moved c.edit-item.result c.loop-edit-test.true c.edit-item.is c.loop-edit.invariant.order.1 c.loop-edit.invariant.lift).forth

pub make-requires-clause-within : goal.make-requires-clause-within
make-requires-clause-within c = (step c.args.file.now c.args.origins.now c.args.edits.now c.loop-edit.at c.loop-edit.edit-index c.loop-edit.invariant.order.0 c.loop-edit.invariant.moved c.edit-item.result c.loop-edit-test.true c.edit-item.is c.loop-edit.invariant.order.1 c.loop-edit.invariant.lift).within

pub make-requires-clause-room : goal.make-requires-clause-room
make-requires-clause-room c = (step c.args.file.now c.args.origins.now c.args.edits.now c.loop-edit.at c.loop-edit.edit-index c.loop-edit.invariant.order.0 c.loop-edit.invariant.moved c.edit-item.result c.loop-edit-test.true c.edit-item.is c.loop-edit.invariant.order.1 c.loop-edit.invariant.lift).room

pub make-requires-clause-behind : goal.make-requires-clause-behind
make-requires-clause-behind c = (step c.args.file.now c.args.origins.now c.args.edits.now c.loop-edit.at c.loop-edit.edit-index c.loop-edit.invariant.order.0 c.loop-edit.invariant.moved c.edit-item.result c.loop-edit-test.true c.edit-item.is c.loop-edit.invariant.order.1 c.loop-edit.invariant.lift).behind

pub make-requires-clause-inside : goal.make-requires-clause-inside
make-requires-clause-inside c = (step c.args.file.now c.args.origins.now c.args.edits.now c.loop-edit.at c.loop-edit.edit-index c.loop-edit.invariant.order.0 c.loop-edit.invariant.moved c.edit-item.result c.loop-edit-test.true c.edit-item.is c.loop-edit.invariant.order.1 c.loop-edit.invariant.lift).inside

pub loop-edit-preserved : goal.loop-edit-preserved
loop-edit-preserved c =
    let s = step c.args.file.now c.args.origins.now c.args.edits.now c.loop-edit.at c.loop-edit.edit-index c.loop-edit.invariant.order.0 c.loop-edit.invariant.moved c.edit-item.result c.loop-edit-test.true c.edit-item.is c.loop-edit.invariant.order.1 c.loop-edit.invariant.lift in
    record {
      made = made_next c.args.file.now c.args.origins.now c.args.edits.now c.loop-edit.at c.loop-edit.edit-index c.loop-edit.invariant.order.0 c.loop-edit.invariant.moved c.edit-item.result c.loop-edit-test.true c.edit-item.is c.loop-edit.invariant.order.1 c.loop-edit.invariant.lift
          c.loop-edit.out.items c.make.new.out.items (edited 0 c.args.file.now (all_moved c.args.origins.now (plain_edits c.args.edits.now))) c.in_ok-at.at c.in_ok-at.ensures.made c.in_ok-at.ensures.next c.loop-edit.invariant.made;
      moved = moves_next c.args.file.now c.args.origins.now c.args.edits.now c.loop-edit.at c.loop-edit.edit-index c.loop-edit.invariant.order.0 c.loop-edit.invariant.moved c.edit-item.result c.loop-edit-test.true c.edit-item.is c.loop-edit.invariant.order.1 c.loop-edit.invariant.lift c.in_ok-at.at c.in_ok-at.ensures.next;
      order = (_, s.rest_order);
      lift = s.rest_lift;
    }

pub copy-requires-clause-order : goal.copy-requires-clause-order
copy-requires-clause-order c = end_within c.args.file.now c.args.origins.now c.args.edits.now c.loop-edit.at c.loop-edit.edit-index c.loop-edit.invariant.order.0 c.loop-edit.invariant.moved c.loop-edit-test.false

pub returns : goal.returns
returns c =
    made_end c.args.file.now c.args.origins.now c.args.edits.now c.loop-edit.at c.loop-edit.edit-index c.loop-edit.invariant.order.0 c.loop-edit.invariant.moved c.loop-edit-test.false c.loop-edit.out.items c.copy.new.out.items
    (edited 0 c.args.file.now (all_moved c.args.origins.now (plain_edits c.args.edits.now))) c.in_ok-copy.ensures c.loop-edit.invariant.made
