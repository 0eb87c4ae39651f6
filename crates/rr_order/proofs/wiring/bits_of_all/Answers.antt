use Rattle.std.proofs.Common.{arith, ◌∙◌}
use Rattle.rr_order.proofs.Wirings.{bits_start, bits_step, bits_done}
use Rattle.rr_order.proofs.wiring.bits_of_all.Goals as goal

pub loop-after-init : goal.loop-after-init
loop-after-init c = c.new-bits.ensures.items ∙ bits_start c.args.pieces.now

pub loop-after-preserved : goal.loop-after-preserved
loop-after-preserved c = bits_step c.args.pieces.now c.loop-after.after _ _ c.loop-after.bits.items c.add_bits_of.new.bits.items (omega (arith, c.loop-after-test.true)) (omega arith) c.loop-after.invariant c.in_ok-add_bits_of.ensures

pub returns : goal.returns
returns c = bits_done c.args.pieces.now c.loop-after.after c.loop-after.bits.items (omega (arith, c.loop-after-test.false)) c.loop-after.invariant
