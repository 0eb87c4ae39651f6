use Rattle.rr_rounds.proofs.Interleaving.{order_is_free}
use Rattle.rr_rounds.proofs.laws.order_of_events_is_free.Goals as goal

pub returns : goal.returns
returns c = order_is_free
