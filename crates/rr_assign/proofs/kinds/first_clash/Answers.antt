use Rattle.std.proofs.Common.{◌∙◌, sym, map, take, arith}
use Rattle.rr_flat.specs.View.{plain_flat}
use Rattle.rr_text_names.specs.Names.{entry}
use Rattle.rr_assign.specs.View.{plain_aim}
use Rattle.rr_assign.proofs.Kinding.{kinds_step_of, kinds_hit_of, kinds_done}
use Rattle.rr_assign.proofs.kinds.first_clash.Goals as goal

pub loop-assignment-preserved : goal.loop-assignment-preserved
loop-assignment-preserved c = record {
  size = omega (arith, c.loop-assignment.invariant.size, c.note-found.ensures.size);
  held = kinds_step_of (plain_aim (plain_flat c.args.flat.now)) c.args.list.now c.loop-assignment.assignment-index c.assignment-item.result _ (entry c.note-found.new.kinds.items) c.note-found.result c.loop-assignment-test.true c.assignment-item.is (sym c.is_some.ensures ∙ c.if-is_some.false)
      (c.note-found.ensures.noted (map (plain_aim (plain_flat c.args.flat.now)) (take c.loop-assignment.assignment-index c.args.list.now)) c.loop-assignment.invariant.held);
}

pub returns-then-is_some : goal.returns-then-is_some
returns-then-is_some c =
    kinds_hit_of (plain_aim (plain_flat c.args.flat.now)) c.args.list.now c.loop-assignment.assignment-index c.assignment-item.result _ (entry c.note-found.new.kinds.items) (entry c.loop-assignment.kinds.items) c.note-found.result c.loop-assignment-test.true c.assignment-item.is (sym c.is_some.ensures ∙ c.if-is_some.true)
    c.loop-assignment.invariant.held (c.note-found.ensures.noted (map (plain_aim (plain_flat c.args.flat.now)) (take c.loop-assignment.assignment-index c.args.list.now)) c.loop-assignment.invariant.held)

pub returns : goal.returns
returns c = kinds_done (plain_aim (plain_flat c.args.flat.now)) c.args.list.now c.loop-assignment.assignment-index (entry c.loop-assignment.kinds.items) c.loop-assignment-test.false c.loop-assignment.invariant.held
