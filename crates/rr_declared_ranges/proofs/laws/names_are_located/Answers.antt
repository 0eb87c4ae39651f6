use Rattle.rr_declared_ranges.proofs.Once.{located_of_source}
use Rattle.rr_declared_ranges.proofs.laws.names_are_located.Goals as goal

pub returns : goal.returns
returns c = located_of_source
