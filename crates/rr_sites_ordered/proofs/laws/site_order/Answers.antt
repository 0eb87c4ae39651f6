use Rattle.rr_sites_ordered.proofs.Modules.{in_order, kinds_among}
use Rattle.rr_sites_ordered.proofs.Spelled.{literals_spelled}
use Rattle.rr_sites_ordered.proofs.laws.site_order.Goals as goal

pub returns-clause-order : goal.returns-clause-order
returns-clause-order c = in_order

pub returns-clause-kinds : goal.returns-clause-kinds
returns-clause-kinds c = kinds_among

pub returns-clause-literals : goal.returns-clause-literals
returns-clause-literals c = literals_spelled
