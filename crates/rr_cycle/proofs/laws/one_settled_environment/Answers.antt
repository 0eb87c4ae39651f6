use Rattle.rr_cycle.proofs.Settled.{settled_exists, settled_by_registers, settled_only, settled_met, settles}
use Rattle.rr_cycle.proofs.laws.one_settled_environment.Goals as goal

pub returns-clause-exists : goal.returns-clause-exists
returns-clause-exists c = settled_exists

pub returns-clause-only : goal.returns-clause-only
returns-clause-only c = settled_only

pub returns-clause-met : goal.returns-clause-met
returns-clause-met c = settled_met

pub returns-clause-computed : goal.returns-clause-computed
returns-clause-computed c = settles

pub returns-clause-registers : goal.returns-clause-registers
returns-clause-registers c = settled_by_registers
