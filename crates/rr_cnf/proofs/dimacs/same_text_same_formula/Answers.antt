use Rattle.rr_cnf.proofs.Reading.{one_formula}
use Rattle.rr_cnf.proofs.dimacs.same_text_same_formula.Goals as goal

pub returns : goal.returns
returns c = one_formula
