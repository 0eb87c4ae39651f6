use Rattle.rr_declared_ranges.proofs.Scalars.{names_of_source}
use Rattle.rr_declared_ranges.proofs.laws.names_have_ranges.Goals as goal

pub returns : goal.returns
returns c = names_of_source
