use Rattle.rr_derive.proofs.LratLaws.{one_cause}
use Rattle.rr_derive.proofs.read.one_fault.Goals as goal

pub returns : goal.returns
returns c = one_cause
