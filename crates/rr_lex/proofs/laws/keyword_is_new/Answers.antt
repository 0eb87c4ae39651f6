use Rattle.rr_lex.proofs.Fresh.{keyword_new}
use Rattle.rr_lex.proofs.laws.keyword_is_new.Goals as goal

pub returns : goal.returns
returns c = λ k h. keyword_new k h
