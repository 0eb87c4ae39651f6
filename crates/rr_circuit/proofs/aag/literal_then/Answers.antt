use Rattle.rr_circuit.proofs.AagParts.{other_literal}
use Rattle.rr_circuit.proofs.aag.literal_then.Goals as goal

pub returns-else-found-literal-clause-none : goal.returns-else-found-literal-clause-none
returns-else-found-literal-clause-none c = other_literal _ _ _ _ c.in_ok-found.ensures.fits c.ranges.literal.fits c.in_ok-found.ensures.some c.if-found-literal.false
