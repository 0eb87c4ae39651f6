use Rattle.rr_sites_fit.proofs.Fit.{places_rise, scopes_fit}
use Rattle.rr_sites_fit.proofs.laws.listing_is_met.Goals as goal

pub returns-clause-scopes : goal.returns-clause-scopes
returns-clause-scopes c = scopes_fit

pub returns-clause-places : goal.returns-clause-places
returns-clause-places c = places_rise
