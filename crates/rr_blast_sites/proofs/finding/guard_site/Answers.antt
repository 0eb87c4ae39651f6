use Rattle.rr_syntax.specs.View.{plain}
use Rattle.rr_blast_sites.proofs.FindLaws.{of_condition}
use Rattle.rr_blast_sites.proofs.finding.guard_site.Goals as goal

pub returns : goal.returns
returns c = of_condition (plain c.args.test.now) _ _ _ c.first_token.ensures c.site_in.ensures
