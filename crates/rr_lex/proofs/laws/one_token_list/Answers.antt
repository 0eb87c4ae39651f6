use Rattle.rr_lex.proofs.Unique.{one_list}
use Rattle.rr_lex.proofs.laws.one_token_list.Goals as goal

pub returns : goal.returns
returns c = λ bytes ts us r s. one_list bytes ts us r s
