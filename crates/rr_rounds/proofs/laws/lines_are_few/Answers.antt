use Rattle.rr_rounds.proofs.Joining.{lines_few}
use Rattle.rr_rounds.proofs.laws.lines_are_few.Goals as goal

pub returns : goal.returns
returns c = λ f inputs count s m r. lines_few f inputs count s r m
