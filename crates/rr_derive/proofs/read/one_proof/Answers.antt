use Rattle.rr_derive.proofs.LratLaws.{one_proof_text}
use Rattle.rr_derive.proofs.read.one_proof.Goals as goal

pub returns : goal.returns
returns c = one_proof_text
