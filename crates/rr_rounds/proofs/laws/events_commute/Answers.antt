use Rattle.rr_rounds.proofs.Commuting.{events_commute}
use Rattle.rr_rounds.proofs.laws.events_commute.Goals as goal

pub returns : goal.returns
returns c = events_commute
