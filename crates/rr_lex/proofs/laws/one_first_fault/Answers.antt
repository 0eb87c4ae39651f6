use Rattle.rr_lex.proofs.Unique.{one_fault}
use Rattle.rr_lex.proofs.laws.one_first_fault.Goals as goal

pub returns : goal.returns
returns c = λ bytes wrong other at place r s. one_fault bytes wrong other at place r s
