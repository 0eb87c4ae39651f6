use Rattle.rr_rounds.proofs.Ordered.{lists_all}
use Rattle.rr_rounds.proofs.laws.joined_lists_all.Goals as goal

pub returns : goal.returns
returns c = lists_all
