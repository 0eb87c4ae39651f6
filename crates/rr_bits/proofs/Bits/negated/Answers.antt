use Rattle.std.proofs.Common.{◌∙◌}
use Rattle.rr_bits.proofs.Operators.{held, negated_is}
use Rattle.rr_bits.proofs.Bits.negated.Goals as goal

pub returns : goal.returns
returns c = c.from_u128.ensures ∙ negated_is _ _ _ (held _ _ _ c.self.invariant c.self.view_is)
