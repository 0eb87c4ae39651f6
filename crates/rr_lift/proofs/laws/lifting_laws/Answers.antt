use Rattle.rr_lift.proofs.Lifts.{lift_expands, nothing_lifts, own_lifted}
use Rattle.rr_lift.proofs.laws.lifting_laws.Goals as goal

pub returns-clause-expands : goal.returns-clause-expands
returns-clause-expands c = lift_expands

pub returns-clause-nothing : goal.returns-clause-nothing
returns-clause-nothing c = nothing_lifts

pub returns-clause-own : goal.returns-clause-own
returns-clause-own c = own_lifted
