use Rattle.rr_lex.proofs.Unique.{one_answer}
use Rattle.rr_lex.proofs.laws.tokens_or_fault.Goals as goal

pub returns : goal.returns
returns c = λ bytes ts wrong at r s. one_answer bytes ts wrong at r s
