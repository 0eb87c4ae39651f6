use Rattle.std.proofs.Common.{map}
use Rattle.rr_syntax.specs.View.{plain_source}
use Rattle.rr_flat.specs.View.{plain_flat}
use Rattle.rr_flatten.proofs.Limits.{design_stays}
use Rattle.rr_guard.proofs.Lists.{all_item}
use Rattle.rr_clock.specs.View.{plain_place}
use Rattle.rr_sites_listed.specs.Listing.{IsFitPlace}
use Rattle.rr_sites_fit.proofs.Fit.{scopes_fit}
use Rattle.rr_template_tests.proofs.Given.{few}
use Rattle.rr_template_tests.proofs.designs.has_sites.Goals as goal

pub sites_of-requires-clause-few : goal.sites_of-requires-clause-few
sites_of-requires-clause-few c =
    few c.requires.tree.0 c.args.design.now.tokens.now (plain_source c.args.design.now.source.now) c.requires.tree.1.0 (plain_flat c.args.design.now.flat) c.requires.tree.1.1 c.requires.fit c.requires.few

pub sites_of-requires-clause-fit : goal.sites_of-requires-clause-fit
sites_of-requires-clause-fit c =
    let source = plain_source c.args.design.now.source.now in
    let flat = plain_flat c.args.design.now.flat in
    all_item (IsFitPlace source flat.scopes flat.owners) plain_place c.in_ok-places.places.now c.args.at c.in-Some.place.now c.in-Some.ensures.lookup.3.0 c.in-Some.ensures.lookup.1
    (scopes_fit source c.requires.tree.1.0 flat c.in_ok-places.ensures.0 (map plain_place c.in_ok-places.places.now) (design_stays 1048576 _ _ _ c.requires.tree.1.1.flat) c.in_ok-places.ensures.1)
