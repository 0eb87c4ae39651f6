use Rattle.std.proofs.Common.{arith, ◌≡◌, ◌<◌, ◌-◌, suc, length, map, get_or, ap}
use Rattle.rr_sort.specs.Graphs.{names_of}
use Rattle.rr_sort.proofs.Sorting.{top_is, length_push}
use Rattle.rr_sort.proofs.Searching.{falses_set, flood_push, flood_pop}
use Rattle.rr_sort.proofs.search.flood.Goals as goal

pub index_mut-requires-in-Some : goal.index_mut-requires-in-Some
index_mut-requires-in-Some c = omega (arith, c.requires.graph c.index-top.result.now c.in-Some.name c.in-Some.ensures.name.0, c.down.invariant.count)

pub down-preserved-in-Continue-branch-2 : goal.down-preserved-in-Continue-branch-2
down-preserved-in-Continue-branch-2 c =
    rw c.in_ok-push_node-in-Some.ensures (flood_push (map names_of c.args.graph.now) c.down.reached.reached.items c.down.reached.seen.items c.next_name.new.seen.items c.down.reached.order.items c.down.stack.items c.in-Some.name c.down.invariant
    c.in-Some.ensures.seen c.in-Some.ensures.more (c.requires.graph c.index-top.result.now c.in-Some.name c.in-Some.ensures.name.0))

pub down-smaller-in-Continue-branch-2 : goal.down-smaller-in-Continue-branch-2
down-smaller-in-Continue-branch-2 c =
    let l : c.in-Some.name < length c.down.reached.reached.items = omega (arith, c.requires.graph c.index-top.result.now c.in-Some.name c.in-Some.ensures.name.0, c.down.invariant.count) in
    let f = falses_set c.down.reached.reached.items c.in-Some.name l c.in-Some.ensures.name.1 in
    let p = length_push c.down.stack.items c.in-Some.name in
    let q = ap length c.in_ok-push_node-in-Some.ensures in
    omega (arith, f, p, q)

pub down-preserved : goal.down-preserved
down-preserved c =
    let e : suc (c.len-last.result - 1) ≡ length c.down.stack.items = omega (arith, c.len-last.ensures, c.down-test.true, c.down.stack.ok) in
    let t : get_or c.down.stack.items (c.len-last.result - 1) 0 ≡ c.index-top.result.now = top_is c.down.stack.items (c.len-last.result - 1) c.index-top.result.now (omega arith) c.index-top.ensures in
    rw (c.in_ok-push_node-in-None.ensures, c.truncate.ensures.items, ← t) (flood_pop (map names_of c.args.graph.now) c.down.reached.reached.items c.down.reached.seen.items c.next_name.new.seen.items c.down.reached.order.items c.down.stack.items (c.len-last.result - 1) c.down.invariant e
    c.in-None.ensures.seen c.in-None.ensures.more (rw t c.in-None.ensures.name))
