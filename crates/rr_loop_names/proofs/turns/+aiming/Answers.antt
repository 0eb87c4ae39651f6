use Rattle.rr_loop_names.specs.View.{plain_turn}
use Rattle.rr_loop_names.proofs.PutNodes.{targets_none, targets_more}
use Rattle.rr_loop_names.proofs.turns.+aiming.Goals as goal

pub put_targets-loop-target-init : goal.put_targets-loop-target-init
put_targets-loop-target-init t c = targets_none (plain_turn c.args.turn.now) c.new-parts.result.items c.new-parts.ensures.items

pub put_targets-loop-target-preserved : goal.put_targets-loop-target-preserved
put_targets-loop-target-preserved t c =
    targets_more (plain_turn c.args.turn.now) c.loop-target.parts.items c.add_part.new.parts.items c.args.list.now c.loop-target.target-index c.target-item.result c.in_ok-part.part
    c.loop-target-test.true c.target-item.is c.loop-target.invariant c.in_ok-part.ensures c.in_ok-add_part.ensures
