use Rattle.std.proofs.Common.{subst}
use Rattle.std.specs.List.{AllByRecursion}
use Rattle.rr_syntax.specs.View.{plain_module}
use Rattle.rr_change_places.specs.Spots.{IsCountable}
use Rattle.rr_guard.proofs.Lists.{all_item}
use Rattle.rr_sites_listed.proofs.Places.{modules_are}
use Rattle.rr_template_tests.proofs.designs.guards_of.Goals as goal

pub sites-requires : goal.sites-requires
sites-requires c =
    all_item IsCountable plain_module c.args.source.now.modules.now c.args.place.now.«module» c.in-Some.module.now c.in-Some.ensures.lookup.3.0 c.in-Some.ensures.lookup.1
    (subst (AllByRecursion IsCountable) (modules_are c.args.source.now) c.requires)
