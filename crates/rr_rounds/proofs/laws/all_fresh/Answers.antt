use Rattle.rr_rounds.proofs.Joining.{lines_fresh}
use Rattle.rr_rounds.proofs.laws.all_fresh.Goals as goal

pub returns : goal.returns
returns c = λ f inputs count s m r. lines_fresh f inputs count s r m
