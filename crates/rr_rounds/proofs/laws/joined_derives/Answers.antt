use Rattle.rr_rounds.proofs.Joining.{joined_derives}
use Rattle.rr_rounds.proofs.laws.joined_derives.Goals as goal

pub returns : goal.returns
returns c = joined_derives
