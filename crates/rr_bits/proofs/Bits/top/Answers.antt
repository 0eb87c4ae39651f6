use Rattle.std.proofs.Common.{sym, ◌∙◌}
use Rattle.rr_bits.proofs.Operators.{held, bit_held}
use Rattle.rr_bits.proofs.Places.{tested}
use Rattle.rr_bits.proofs.Bits.top.Goals as goal

pub returns : goal.returns
returns c = let s = held _ _ _ c.self.invariant c.self.view_is in tested _ _ ∙ sym (rw s.width (bit_held _ _ _ _ s))
