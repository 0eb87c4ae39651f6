use Rattle.std.proofs.Common.{sym, ◌∙◌, arith, ◌^◌}
use Rattle.rr_bits.proofs.Powers.{even_step, odd_step, first_step, last_step}
use Rattle.rr_bits.proofs.Operators.{held, power_is}
use Rattle.rr_bits.proofs.Bits.power.Goals as goal

pub loop-left-init : goal.loop-left-init
loop-left-init c = first_step _ _ _

pub loop-left-preserved : goal.loop-left-preserved
loop-left-preserved c = let l = c.loop-left in elim c.if-left-eq1.branch [
  | goal.then-left-eq1 v ↦ rw v.power-is (odd_step l.power l.base l.left (2 ^ 128) v.if-left-eq1.true ∙ l.invariant)
  | goal.else-left-eq1 v ↦ rw v.power-is (even_step l.power l.base l.left (2 ^ 128) v.if-left-eq1.false ∙ l.invariant)
]

pub returns : goal.returns
returns c =
    let e = last_step c.loop-left.power c.loop-left.base c.loop-left.left (2 ^ 128) (omega arith) in
    c.from_u128.ensures ∙ power_is _ _ _ _ _ (held _ _ _ c.self.invariant c.self.view_is) (sym e ∙ c.loop-left.invariant)
