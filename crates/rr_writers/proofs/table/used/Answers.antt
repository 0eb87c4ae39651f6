use Rattle.std.proofs.Common.{arith}
use Rattle.rr_writers.proofs.Entries.{past_zero, zero_before}
use Rattle.rr_writers.proofs.table.used.Goals as goal

pub loop-end-init : goal.loop-end-init
loop-end-init c = (omega arith, λ i l. past_zero c.args.row.now i l)

pub loop-end-preserved : goal.loop-end-preserved
loop-end-preserved c = (omega (arith, c.loop-end.invariant.0), zero_before c.args.row.now c.loop-end.end _ c.loop-end-test.true c.loop-end.invariant.0 c.if-row-end-ne0.false c.loop-end.invariant.1)
