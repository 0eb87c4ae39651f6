use Rattle.rr_declared_ranges.proofs.Once.{words_of_source}
use Rattle.rr_declared_ranges.proofs.laws.words_are_located.Goals as goal

pub returns : goal.returns
returns c = words_of_source
