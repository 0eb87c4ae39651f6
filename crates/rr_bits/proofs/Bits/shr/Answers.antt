use Rattle.std.proofs.Common.{◌∙◌}
use Rattle.rr_bits.proofs.Operators.{held, shr_is, shr_past}
use Rattle.rr_bits.proofs.Bits.shr.Goals as goal

pub returns-then-by-self : goal.returns-then-by-self
returns-then-by-self c =
    c.from_u128.ensures ∙ shr_is _ _ _ _ (held _ _ _ c.self.invariant c.self.view_is)

pub returns-else-by-self : goal.returns-else-by-self
returns-else-by-self c =
    c.from_u128-else-by-self.ensures ∙ shr_past _ _ _ _ (held _ _ _ c.self.invariant c.self.view_is) c.if-by-self.false
