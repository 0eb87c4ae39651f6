use Rattle.rr_sites_complete.proofs.GuardWords.{names_are_these}
use Rattle.rr_sites_complete.proofs.laws.names_are_exact.Goals as goal

pub returns : goal.returns
returns c = names_are_these
