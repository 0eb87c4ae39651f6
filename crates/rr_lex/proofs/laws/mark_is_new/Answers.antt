use Rattle.rr_lex.proofs.Fresh.{mark_new}
use Rattle.rr_lex.proofs.laws.mark_is_new.Goals as goal

pub returns : goal.returns
returns c = λ m h. mark_new m h
