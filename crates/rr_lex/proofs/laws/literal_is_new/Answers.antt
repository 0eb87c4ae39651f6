use Rattle.rr_lex.proofs.Fresh.{literal_new}
use Rattle.rr_lex.proofs.laws.literal_is_new.Goals as goal

pub returns : goal.returns
returns c = λ width signed value h k l. literal_new width signed value h k l
