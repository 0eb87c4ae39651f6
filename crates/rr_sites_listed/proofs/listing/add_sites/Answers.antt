use Rattle.rr_sites_listed.proofs.Places.{three}
use Rattle.rr_sites_listed.proofs.listing.add_sites.Goals as goal

pub returns : goal.returns
returns c = λ m h. three _ _ _ _ _ _ _ (c.in_ok-add_overwrites.ensures m h) c.in_ok-add_guard.ensures c.in_ok-add_literal.ensures
