use Rattle.std.proofs.Common.{◌∙◌}
use Rattle.rr_bits.proofs.Operators.{held, inverted_is}
use Rattle.rr_bits.proofs.Bits.inverted.Goals as goal

pub returns : goal.returns
returns c = c.from_u128.ensures ∙ rw c.mask.ensures (inverted_is _ _ _ (held _ _ _ c.self.invariant c.self.view_is))
