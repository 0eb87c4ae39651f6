use Rattle.std.proofs.Common.{sym}
use Rattle.rr_bits.proofs.Operators.{held}
use Rattle.rr_bits.proofs.Bits.to_u128.Goals as goal

pub returns : goal.returns
returns c = let s = held _ _ _ c.self.invariant c.self.view_is in sym s.value
