use Rattle.rr_flat_laws.proofs.Whole.{no_other_drivers_of_design}
use Rattle.rr_flat_laws.proofs.laws.no_other_drivers.Goals as goal

pub returns : goal.returns
returns c = no_other_drivers_of_design
