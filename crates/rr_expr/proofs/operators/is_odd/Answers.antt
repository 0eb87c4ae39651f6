use Rattle.std.proofs.Common.{sym, arith}
use Rattle.rr_expr.proofs.Words.{parity_next, parity_none}
use Rattle.rr_expr.proofs.operators.is_odd.Goals as goal

pub loop-place-init : goal.loop-place-init
loop-place-init c = sym parity_none

pub loop-place-preserved : goal.loop-place-preserved
loop-place-preserved c = rw (c.get-odd.ensures, c.loop-place.invariant) (sym (parity_next c.args.word c.loop-place.place (omega (arith, c.loop-place-test.true, c.width-place-end.ensures.value))))
