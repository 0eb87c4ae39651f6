use Rattle.rr_sites_fit.proofs.Whole.{sites_are_right, sites_are_listed}
use Rattle.rr_sites_fit.proofs.laws.sites_are_right.Goals as goal

pub returns-clause-right : goal.returns-clause-right
returns-clause-right c = sites_are_right

pub returns-clause-listed : goal.returns-clause-listed
returns-clause-listed c = sites_are_listed
