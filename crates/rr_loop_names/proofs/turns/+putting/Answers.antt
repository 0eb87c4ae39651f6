use Rattle.rr_loop_names.specs.View.{plain_turn}
use Rattle.rr_loop_names.proofs.PutNodes.{parts_none, parts_more}
use Rattle.rr_loop_names.proofs.turns.+putting.Goals as goal

pub put_all-loop-expr-init : goal.put_all-loop-expr-init
put_all-loop-expr-init t c = parts_none (plain_turn c.args.turn.now) c.new-parts.result.items c.new-parts.ensures.items

pub put_all-loop-expr-preserved : goal.put_all-loop-expr-preserved
put_all-loop-expr-preserved t c =
    parts_more (plain_turn c.args.turn.now) c.loop-expr.parts.items c.add_part.new.parts.items c.args.list.now c.loop-expr.expr-index c.expr-item.result c.in_ok-part.part
    c.loop-expr-test.true c.expr-item.is c.loop-expr.invariant c.in_ok-part.ensures c.in_ok-add_part.ensures
