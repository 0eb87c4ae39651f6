use Rattle.std.proofs.Common.{arith, ◌≡◌, get_or}
use Rattle.rr_flat.specs.View.{plain_flat}
use Rattle.rr_sort.proofs.Sorting.{top_is}
use Rattle.rr_order.specs.Nodes.{IsBit, widths}
use Rattle.rr_order.proofs.Layouts.{node_below}
use Rattle.rr_order.proofs.layout.node_of.Goals as goal

pub overflow_add-result : goal.overflow_add-result
overflow_add-result c =
    let l = c.if-signal-signal_count.true in
    let v : IsBit (widths (plain_flat c.args.flat.now)) c.args.bit = (omega (arith, l, c.signal_count.ensures.value), omega (arith, c.width_of.ensures.value, c.if-bit-width_of.true)) in
    let t : get_or c.args.layout.now.starts.items c.args.bit.signal 0 ≡ c.index.result.now = top_is c.args.layout.now.starts.items c.args.bit.signal c.index.result.now (omega (arith, v.0, c.requires.count)) c.index.ensures in
    omega (arith, t, c.requires.starts_at c.args.bit.signal (omega (arith, v.0)), node_below (widths (plain_flat c.args.flat.now)) c.args.bit v, c.requires.few)

pub returns-then-bit-width_of : goal.returns-then-bit-width_of
returns-then-bit-width_of c =
    let l = c.if-signal-signal_count.true in
    let v : IsBit (widths (plain_flat c.args.flat.now)) c.args.bit = (omega (arith, l, c.signal_count.ensures.value), omega (arith, c.width_of.ensures.value, c.if-bit-width_of.true)) in
    let t : get_or c.args.layout.now.starts.items c.args.bit.signal 0 ≡ c.index.result.now = top_is c.args.layout.now.starts.items c.args.bit.signal c.index.result.now (omega (arith, v.0, c.requires.count)) c.index.ensures in
    (v, omega (arith, t, c.requires.starts_at c.args.bit.signal (omega (arith, v.0))))
