use Rattle.std.proofs.Common.{sym, ◌∙◌}
use Rattle.rr_bits.proofs.Operators.{held, extend_ones, extend_zeros}
use Rattle.std.proofs.lemmas.Bool.{and_parts}
use Rattle.rr_bits.proofs.Bits.extend.Goals as goal

pub returns-then-is_negative : goal.returns-then-is_negative
returns-then-is_negative c =
    let n = and_parts _ _ (sym c.is_negative.ensures ∙ c.if-is_negative.true) in
    c.from_u128.ensures ∙ rw c.mask.ensures (extend_ones _ _ _ _ _ (held _ _ _ c.self.invariant c.self.view_is) c.requires.high n.0 n.1)

pub returns-else-is_negative : goal.returns-else-is_negative
returns-else-is_negative c =
    c.from_u128-else-is_negative.ensures ∙ extend_zeros _ _ _ _ _ (held _ _ _ c.self.invariant c.self.view_is) (sym c.is_negative.ensures ∙ c.if-is_negative.false)
