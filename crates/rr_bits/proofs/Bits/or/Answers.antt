use Rattle.std.proofs.Common.{sym, ◌∙◌}
use Rattle.rr_bits.proofs.Operators.{held, or_is}
use Rattle.rr_bits.proofs.Bits.or.Goals as goal

pub returns : goal.returns
returns c =
    let s = held _ _ _ c.self.invariant c.self.view_is in
    let o = held _ _ _ c.other.invariant c.other.view_is in
    let e = sym o.width ∙ sym c.requires ∙ s.width in
    c.from_u128.ensures ∙ or_is _ _ _ _ _ s (rw e at o)
