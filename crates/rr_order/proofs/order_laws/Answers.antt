use Rattle.rr_order.proofs.Naming.{ordered_ranks, unranked}
use Rattle.rr_order.proofs.order_laws.Goals as goal

pub returns-clause-order : goal.returns-clause-order
returns-clause-order c = ordered_ranks

pub returns-clause-ring : goal.returns-clause-ring
returns-clause-ring c = unranked
