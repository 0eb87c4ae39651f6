use Rattle.rr_flat_laws.proofs.Blocking.{blocks_of_design}
use Rattle.rr_flat_laws.proofs.laws.blocks_are_always.Goals as goal

pub returns : goal.returns
returns c = blocks_of_design
