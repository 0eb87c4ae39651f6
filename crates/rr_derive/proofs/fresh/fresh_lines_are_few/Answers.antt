use Rattle.rr_derive.proofs.Few.{few}
use Rattle.rr_derive.proofs.fresh.fresh_lines_are_few.Goals as goal

pub returns : goal.returns
returns c = few
