use Rattle.rr_derive.proofs.LratLines.{Hints-more}
use Rattle.rr_derive.proofs.read.hints_then.Goals as goal

pub loop-var-preserved : goal.loop-var-preserved
loop-var-preserved c =
    rw (c.in_ok-push.ensures.items, c.either-negative.ensures) (Hints-more _ _ _ _ _ _ c.loop-var.invariant c.in-Some.ensures.fits c.in-Some.ensures.some)
