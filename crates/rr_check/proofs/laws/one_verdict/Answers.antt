use Rattle.rr_check.proofs.Whole.{one}
use Rattle.rr_check.proofs.laws.one_verdict.Goals as goal

pub returns : goal.returns
returns c = λ cs lines v w p q. one cs lines v w p q
