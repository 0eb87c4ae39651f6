use Rattle.rr_lift.proofs.Places.{exact_are, exact_rise}
use Rattle.rr_lift.proofs.laws.exact_laws.Goals as goal

pub returns-clause-rise : goal.returns-clause-rise
returns-clause-rise c = exact_rise

pub returns-clause-are : goal.returns-clause-are
returns-clause-are c = exact_are
