use Rattle.rr_cycle.proofs.Settled.{settled_only}
use Rattle.rr_meaning.proofs.cycle.settle.Goals as goal

pub returns-clause-only : goal.returns-clause-only
returns-clause-only c = λ e h.
    settled_only _ (c.requires.ordered.0, c.requires.ordered.1.0) c.args.order.now.clock _ c.args.inputs.now e _ h (rw (c.machine_on-machine.ensures.env, c.in_ok-copied.ensures) at c.in_ok-settle_in.ensures.settled)
