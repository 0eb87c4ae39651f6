use Rattle.rr_blast_sites.proofs.FindLaws.{of_literal}
use Rattle.rr_blast_sites.proofs.finding.literal_site.Goals as goal

pub returns : goal.returns
returns c = of_literal _ _ _ c.site_in.ensures
