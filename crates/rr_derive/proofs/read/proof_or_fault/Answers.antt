use Rattle.rr_derive.proofs.LratLaws.{proof_or_cause}
use Rattle.rr_derive.proofs.read.proof_or_fault.Goals as goal

pub returns : goal.returns
returns c = proof_or_cause
