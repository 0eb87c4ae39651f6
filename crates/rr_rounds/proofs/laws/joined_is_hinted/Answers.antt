use Rattle.rr_rounds.proofs.Joining.{joined_hinted, joined_with_hinted}
use Rattle.rr_rounds.proofs.laws.joined_is_hinted.Goals as goal

pub returns : goal.returns
returns c = λ f inputs count s r. (joined_hinted f inputs count s r, λ m e is. joined_with_hinted f inputs count s r m e is)
