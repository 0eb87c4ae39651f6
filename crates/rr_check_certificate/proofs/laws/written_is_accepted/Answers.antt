use Rattle.rr_check_certificate.proofs.Certified.{written_accepted}
use Rattle.rr_check_certificate.proofs.laws.written_is_accepted.Goals as goal

pub returns : goal.returns
returns c = λ d p w r a. written_accepted d p w r a
