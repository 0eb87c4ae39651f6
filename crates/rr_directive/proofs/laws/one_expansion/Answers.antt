use Rattle.rr_directive.proofs.Faults.{not_both, one_expansion, one_fault}
use Rattle.rr_directive.proofs.laws.one_expansion.Goals as goal

pub returns-clause-expansion : goal.returns-clause-expansion
returns-clause-expansion c = one_expansion

pub returns-clause-fault : goal.returns-clause-fault
returns-clause-fault c = one_fault

pub returns-clause-either : goal.returns-clause-either
returns-clause-either c = not_both
