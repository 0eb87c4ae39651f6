use Rattle.rr_sites_complete.proofs.Members.{listed_are_sites, sites_are_listed}
use Rattle.rr_sites_complete.proofs.Orders.{sites_rise, sites_stand_once}
use Rattle.rr_sites_complete.proofs.ToldSites.{sites_spelled}
use Rattle.rr_sites_complete.proofs.laws.sites_are_exact.Goals as goal

pub returns-clause-listed : goal.returns-clause-listed
returns-clause-listed c = listed_are_sites

pub returns-clause-every : goal.returns-clause-every
returns-clause-every c = sites_are_listed

pub returns-clause-order : goal.returns-clause-order
returns-clause-order c = sites_rise

pub returns-clause-once : goal.returns-clause-once
returns-clause-once c = sites_stand_once

pub returns-clause-spelled : goal.returns-clause-spelled
returns-clause-spelled c = sites_spelled
