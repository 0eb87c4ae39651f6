use Rattle.std.proofs.Common.{sym, ◌∙◌}
use Rattle.rr_bits.proofs.Operators.{held, bit_held}
use Rattle.rr_bits.proofs.Places.{tested, has_above}
use Rattle.std.proofs.lemmas.Bool.{le-ltb}
use Rattle.rr_bits.proofs.Bits.get.Goals as goal

pub returns-then-place-self : goal.returns-then-place-self
returns-then-place-self c = let s = held _ _ _ c.self.invariant c.self.view_is in tested _ _ ∙ sym (bit_held _ _ _ _ s)

pub returns-else-place-self : goal.returns-else-place-self
returns-else-place-self c = let s = held _ _ _ c.self.invariant c.self.view_is in le-ltb _ _ c.if-place-self.false ∙ sym (bit_held _ _ _ _ s ∙ has_above _ _ _ s.small c.if-place-self.false)
