use Rattle.rr_derive.proofs.LratLines.{deletion_of}
use Rattle.rr_derive.proofs.read.deletion_then.Goals as goal

pub returns : goal.returns
returns c = deletion_of _ _ c.numbers_end.ensures _ c.behind.ensures
