use Rattle.rr_lawful.proofs.ClockOnce.{one_clock}
use Rattle.rr_lawful.proofs.OneFault.{same_fault, unlawful}
use Rattle.rr_lawful.proofs.once.one_fault.Goals as goal

pub returns-clause-one : goal.returns-clause-one
returns-clause-one c = same_fault

pub returns-clause-unlawful : goal.returns-clause-unlawful
returns-clause-unlawful c = unlawful

pub returns-clause-one_clock : goal.returns-clause-one_clock
returns-clause-one_clock c = one_clock
