use Rattle.rr_rounds.proofs.Commuting.{events_commute}
use Rattle.rr_rounds.proofs.Joining.{joined_derives}
use Rattle.rr_members.proofs.members.Members.round.Goals as goal

pub returns-clause-interleaved : goal.returns-clause-interleaved
returns-clause-interleaved g c = joined_derives

pub returns-clause-commute : goal.returns-clause-commute
returns-clause-commute g c = events_commute
