use Rattle.std.proofs.Common.{sym}
use Rattle.rr_bits.proofs.Operators.{held}
use Rattle.rr_bits.proofs.Bits.width.Goals as goal

pub returns-clause-value : goal.returns-clause-value
returns-clause-value c = let s = held _ _ _ c.self.invariant c.self.view_is in sym s.width
