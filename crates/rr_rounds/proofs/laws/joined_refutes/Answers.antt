use Rattle.rr_rounds.proofs.Joining.{joined_refutes}
use Rattle.rr_rounds.proofs.laws.joined_refutes.Goals as goal

pub returns : goal.returns
returns c = λ f inputs count s m e r. joined_refutes f inputs count s r m e
