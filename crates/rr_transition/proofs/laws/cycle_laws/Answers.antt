use Rattle.rr_transition.proofs.Example.{cycle_met}
use Rattle.rr_transition.proofs.PlacedLaws.{cycles_from_bits, cycles_from_steps}
use Rattle.rr_transition.proofs.laws.cycle_laws.Goals as goal

pub returns-clause-bits : goal.returns-clause-bits
returns-clause-bits c = cycles_from_bits

pub returns-clause-steps : goal.returns-clause-steps
returns-clause-steps c = cycles_from_steps

pub returns-clause-met : goal.returns-clause-met
returns-clause-met c = cycle_met
