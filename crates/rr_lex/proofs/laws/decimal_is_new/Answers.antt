use Rattle.rr_lex.proofs.Fresh.{decimal_new}
use Rattle.rr_lex.proofs.laws.decimal_is_new.Goals as goal

pub returns : goal.returns
returns c = λ text d f. decimal_new text d f
