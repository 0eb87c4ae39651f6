use Rattle.rr_sort.proofs.Sorting.{place, order_ranks, no_ranks}
use Rattle.rr_sort.proofs.rank_laws.Goals as goal

pub returns-clause-order : goal.returns-clause-order
returns-clause-order c = λ g order i h. (place g order h, order_ranks g order i h)

pub returns-clause-cycle : goal.returns-clause-cycle
returns-clause-cycle c = λ g cycle rank h r. no_ranks g cycle rank h r
