use Rattle.std.proofs.Common.{arith}
use Rattle.rr_flat.specs.View.{plain_flat}
use Rattle.rr_order.specs.Nodes.{widths}
use Rattle.rr_order.proofs.Building.{laid_more, laid_all}
use Rattle.rr_order.proofs.layout.layout_of.Goals as goal

pub loop-id-preserved : goal.loop-id-preserved
loop-id-preserved c =
    rw c.in_ok-push.ensures.items (laid_more (widths (plain_flat c.args.flat.now)) c.loop-id.id c.width_of.result c.len.result c.loop-id.starts.items c.loop-id.table.items c.add_bits.new.table.items (omega (arith, c.loop-id-test.true, c.signal_count-id-end.ensures.value)) c.width_of.ensures.value c.width_of.ensures.high
    (omega (arith, c.len.ensures, c.loop-id.table.ok)) c.loop-id.invariant c.in_ok-add_bits.ensures)

pub returns : goal.returns
returns c =
    rw c.in_ok-push-2.ensures.items (laid_all (widths (plain_flat c.args.flat.now)) c.loop-id.id c.len-2.result c.loop-id.starts.items c.loop-id.table.items (omega (arith, c.loop-id-test.false, c.loop-id.auto.id-end, c.signal_count-id-end.ensures.value))
    (omega (arith, c.loop-id.auto.id-end, c.signal_count-id-end.ensures.few)) (omega (arith, c.len-2.ensures, c.loop-id.table.ok)) c.loop-id.invariant)
