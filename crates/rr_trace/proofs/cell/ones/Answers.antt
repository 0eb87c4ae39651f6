use Rattle.rr_trace.proofs.Numerals.{ones_are}
use Rattle.rr_trace.proofs.cell.ones.Goals as goal

pub returns : goal.returns
returns c = ones_are _ c.requires.low c.requires.high
