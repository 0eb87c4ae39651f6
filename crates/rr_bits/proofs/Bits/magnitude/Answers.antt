use Rattle.std.proofs.Common.{sym, ◌∙◌}
use Rattle.rr_bits.proofs.Operators.{held, magnitude_negative, magnitude_plain}
use Rattle.std.proofs.lemmas.Nat.{and_mask}
use Rattle.rr_bits.proofs.Bits.magnitude.Goals as goal

pub returns-then-is_negative : goal.returns-then-is_negative
returns-then-is_negative c =
    rw c.mask.ensures (and_mask _ c.self.inside.width ∙ magnitude_negative _ _ _ _ (held _ _ _ c.self.invariant c.self.view_is) (sym c.is_negative.ensures ∙ c.if-is_negative.true))

pub returns-else-is_negative : goal.returns-else-is_negative
returns-else-is_negative c = magnitude_plain _ _ _ _ (held _ _ _ c.self.invariant c.self.view_is) (sym c.is_negative.ensures ∙ c.if-is_negative.false)
