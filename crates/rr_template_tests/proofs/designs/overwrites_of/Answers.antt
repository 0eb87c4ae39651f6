use Rattle.rr_clock.specs.View.{plain_place}
use Rattle.rr_sites_listed.proofs.Places.{fit_there, found_there}
use Rattle.rr_template_tests.proofs.designs.overwrites_of.Goals as goal

pub sites-requires : goal.sites-requires
sites-requires c =
    fit_there c.args.source.now c.args.scopes.now c.args.owners.now (plain_place c.args.place.now) c.in-Some.module.now c.in-Some-first_scope.scope.now
    (found_there c.args.source.now (plain_place c.args.place.now) c.in-Some.module.now c.in-Some.ensures.lookup.3.0 c.in-Some.ensures.lookup.1) c.in-Some-first_scope.ensures c.requires
