use Rattle.rr_derive.proofs.WrittenLaws.{written_is_read}
use Rattle.rr_derive.proofs.read.written_is_read.Goals as goal

pub returns : goal.returns
returns c = written_is_read
