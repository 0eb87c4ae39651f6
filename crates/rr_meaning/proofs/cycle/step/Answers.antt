use Rattle.rr_cycle.proofs.Settled.{next_only}
use Rattle.rr_meaning.proofs.cycle.step.Goals as goal

pub returns-clause-only : goal.returns-clause-only
returns-clause-only c = λ e h. next_only _ _ e _ h (rw (c.machine_on-machine.ensures.env, c.in_ok-copied.ensures) at c.in_ok-edge.ensures.next)
