use Rattle.std.proofs.Common.{arith}
use Rattle.rr_expr.proofs.Same.{same_next}
use Rattle.rr_expr.proofs.notes.+sames.Goals as goal

pub same_parts-loop-place-preserved : goal.same_parts-loop-place-preserved
same_parts-loop-place-preserved t c = same_next c.args.a.now c.args.b.now c.loop-place.place c.index-a-place.result c.index-b-place.result c.loop-place-test.true (omega (arith, c.loop-place-test.true, c.if-a-b.false)) c.index-a-place.is c.index-b-place.is c.loop-place.invariant (rw c.if-not-same.false at c.same.ensures)
