use Rattle.std.proofs.Common.{◌∙◌}
use Rattle.rr_bits.proofs.Operators.{held, mul_is}
use Rattle.rr_bits.proofs.Bits.mul.Goals as goal

pub returns : goal.returns
returns c =
    let s = held _ _ _ c.self.invariant c.self.view_is in
    let o = held _ _ _ c.other.invariant c.other.view_is in
    c.from_u128.ensures ∙ mul_is _ _ _ _ _ s o.value
