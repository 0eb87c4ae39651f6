use Rattle.rr_lex.proofs.Fresh.{name_new}
use Rattle.rr_lex.proofs.laws.name_is_new.Goals as goal

pub returns : goal.returns
returns c = λ name n. name_new name n
