use Rattle.rr_sites_fit.proofs.Same.{one_list}
use Rattle.rr_sites_fit.proofs.laws.one_site_list.Goals as goal

pub returns : goal.returns
returns c = one_list
