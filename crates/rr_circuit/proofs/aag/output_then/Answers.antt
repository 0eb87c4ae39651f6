use Rattle.rr_circuit.proofs.AagParts.{past_bound}
use Rattle.rr_circuit.proofs.aag.output_then.Goals as goal

pub returns-else-found-bound-clause-none : goal.returns-else-found-bound-clause-none
returns-else-found-bound-clause-none c = past_bound _ _ _ _ c.in_ok-found.ensures.fits c.ranges.bound.fits c.in_ok-found.ensures.some c.if-found-bound.false
