use Rattle.std.proofs.Common.{arith, ◌≡◌, ◌<◌, ◌-◌, ℕ, length, get_or}
use Rattle.rr_sort.proofs.Sorting.{top_is, graph_count}
use Rattle.rr_sort.proofs.search.off_cycles.Goals as goal

pub leaving-requires : goal.leaving-requires
leaving-requires c = rw c.as_slice.ensures.value c.in_ok-back.ensures.graph

pub index-requires : goal.index-requires
index-requires c =
    let i : ℕ = c.len.result - 1 - c.loop-at.at in
    let l : i < length c.in_ok-order.order.items = omega (arith, c.len.ensures, c.len-at-end.ensures, c.in_ok-order.order.ok, c.loop-at-test.true) in
    let t : get_or c.in_ok-order.order.items i 0 ≡ c.index-node.result.now = top_is c.in_ok-order.order.items i c.index-node.result.now l c.index-node.ensures in
    let b : get_or c.in_ok-order.order.items i 0 < length c.as_slice.result.now = c.in_ok-order.ensures i l in
    omega (arith, t, b, c.as_slice.ensures.len, c.in_ok-back.ensures.count, graph_count c.args.graph.now, c.loop-at.invariant.0.count, c.loop-at.reached.reached.ok, c.in_ok-back.back.ok)
