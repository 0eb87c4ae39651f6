use Rattle.rr_flat_laws.proofs.Whole.{connections_of_design}
use Rattle.rr_flat_laws.proofs.laws.connections_are_drivers.Goals as goal

pub returns : goal.returns
returns c = connections_of_design
