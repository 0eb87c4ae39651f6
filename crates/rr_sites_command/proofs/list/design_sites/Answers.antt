use Rattle.rr_flatten.proofs.Limits.{design_stays}
use Rattle.rr_sites_command.proofs.list.design_sites.Goals as goal

pub sites_of-requires-clause-design : goal.sites_of-requires-clause-design
sites_of-requires-clause-design c = (c.requires.tree.1.0, design_stays 1048576 _ _ _ c.requires.tree.1.1.flat)

pub returns-clause-right : goal.returns-clause-right
returns-clause-right c = λ word o. c.sites_of.ensures.right word c.args.design.now.order.rising o.0 o.1.one_clock
