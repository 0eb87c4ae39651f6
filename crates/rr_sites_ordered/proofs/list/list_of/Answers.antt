use Rattle.std.proofs.Common.{map, sym, subst}
use Rattle.rr_syntax.specs.View.{plain_source}
use Rattle.rr_choice.specs.Sites.{IsSiteList}
use Rattle.rr_clock.specs.View.{plain_place}
use Rattle.rr_sites_ordered.proofs.Rising.{sites_listed}
use Rattle.rr_sites_ordered.proofs.Short.{countable}
use Rattle.rr_sites_ordered.proofs.list.list_of.Goals as goal

pub listed-requires-clause-few : goal.listed-requires-clause-few
listed-requires-clause-few c = countable (plain_source c.args.source.now) c.requires.literals c.requires.few

pub new-requires : goal.new-requires
new-requires c =
    subst IsSiteList (sym c.in_ok-sites.ensures)
    (sites_listed (plain_source c.args.source.now) c.args.scopes.now c.args.owners.now (map plain_place c.args.places.now) c.requires.formed c.requires.numbered c.requires.literals c.requires.rising c.requires.fit)
