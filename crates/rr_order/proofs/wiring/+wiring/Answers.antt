use Rattle.std.proofs.Common.{◌∙◌, sym}
use Rattle.rr_order.proofs.Wirings.{wiring_more, wiring_stop, wiring_done}
use Rattle.rr_order.proofs.wiring.+wiring.Goals as goal

pub are_wiring-loop-expr-preserved : goal.are_wiring-loop-expr-preserved
are_wiring-loop-expr-preserved t c =
    wiring_more c.args.scope.now c.args.list.now c.loop-expr.expr-index c.expr-item.result c.loop-expr-test.true c.expr-item.is (sym c.is_wiring.ensures ∙ c.if-not-is_wiring.false) ∙ c.loop-expr.invariant

pub are_wiring-returns-then-not-is_wiring : goal.are_wiring-returns-then-not-is_wiring
are_wiring-returns-then-not-is_wiring t c =
    wiring_stop c.args.scope.now c.args.list.now c.loop-expr.expr-index c.expr-item.result c.loop-expr-test.true c.expr-item.is (sym c.is_wiring.ensures ∙ c.if-not-is_wiring.true) ∙ c.loop-expr.invariant

pub are_wiring-returns : goal.are_wiring-returns
are_wiring-returns t c = wiring_done c.args.scope.now c.args.list.now c.loop-expr.expr-index c.loop-expr-test.false ∙ c.loop-expr.invariant
