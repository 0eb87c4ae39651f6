use Rattle.rr_flat_laws.proofs.Whole.{top_of_design}
use Rattle.rr_flat_laws.proofs.laws.top_is_first.Goals as goal

pub returns : goal.returns
returns c = top_of_design
