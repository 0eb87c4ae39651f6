use Rattle.rr_derive.proofs.LratLines.{Numbers-more}
use Rattle.rr_derive.proofs.read.numbers_end.Goals as goal

pub loop-after-preserved : goal.loop-after-preserved
loop-after-preserved c = Numbers-more _ _ _ _ c.loop-after.invariant c.in-Some.ensures.fits c.in-Some.ensures.some
