use Rattle.rr_bits.proofs.Operators.{mask_is}
use Rattle.rr_bits.proofs.mask.Goals as goal

pub returns : goal.returns
returns c = mask_is _ c.requires.low c.requires.high
