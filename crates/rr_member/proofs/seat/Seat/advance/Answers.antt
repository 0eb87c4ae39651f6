use Rattle.rr_member.proofs.Sitting.{Made-more}
use Rattle.rr_member.proofs.seat.Seat.advance.Goals as goal

pub loop-step-preserved : goal.loop-step-preserved
loop-step-preserved c = Made-more _ _ _ _ _ c.loop-step.invariant c.in_ok-step.ensures.same c.in_ok-step.ensures.does
