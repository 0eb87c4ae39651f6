use Rattle.std.proofs.Common.{false}
use Rattle.rr_syntax.specs.declared.site.SiteKind.TheVariants as kind
use Rattle.rr_choice.proofs.BitsRead.{site_fits}
use Rattle.rr_plainer.proofs.asking.furthest.Goals as goal

pub site_bits-requires : goal.site_bits-requires
site_bits-requires c = site_fits c.sites-each.result.now c.args.list.now c.loop-site.site-index (record { kind = kind.Literal 0 false; token = 0 }) c.sites-each.ensures.same c.sites-each.ensures.kept c.loop-site-test.true
