use Rattle.rr_sites_written.proofs.Written.{names_are_written}
use Rattle.rr_sites_written.proofs.laws.site_names.Goals as goal

-- src/laws.rt
pub returns : goal.returns
returns c = names_are_written
