use Rattle.std.proofs.Common.{arith, ◌≡◌, ◌<◌, ◌-◌, suc, length, map, get_or, ap}
use Rattle.rr_sort.specs.Graphs.{names_of}
use Rattle.rr_sort.proofs.Sorting.{top_is, length_push}
use Rattle.rr_sort.proofs.Searching.{falses_set, search_push, search_pop, search_found, search_none}
use Rattle.rr_sort.proofs.search.cycle_through.Goals as goal

pub returns-then-name-start : goal.returns-then-name-start
returns-then-name-start c =
    let e : suc (c.len-last.result - 1) ≡ length c.down.stack.items = omega (arith, c.len-last.ensures, c.down-test.true, c.down.stack.ok) in
    let t : get_or c.down.stack.items (c.len-last.result - 1) 0 ≡ c.index-top.result.now = top_is c.down.stack.items (c.len-last.result - 1) c.index-top.result.now (omega arith) c.index-top.ensures in
    search_found (map names_of c.args.graph.now) c.args.start c.down.reached.items c.down.seen.items c.down.stack.items (c.len-last.result - 1) e c.down.invariant (rw (t, ← c.if-name-start.true) c.in-Some.ensures.name.0)

pub index_mut-requires : goal.index_mut-requires
index_mut-requires c = omega (arith, c.requires.graph c.index-top.result.now c.in-Some.name c.in-Some.ensures.name.0, c.down.invariant.marks)

pub down-preserved-in-Continue-branch-4 : goal.down-preserved-in-Continue-branch-4
down-preserved-in-Continue-branch-4 c =
    let e : suc (c.len-last.result - 1) ≡ length c.down.stack.items = omega (arith, c.len-last.ensures, c.down-test.true, c.down.stack.ok) in
    let t : get_or c.down.stack.items (c.len-last.result - 1) 0 ≡ c.index-top.result.now = top_is c.down.stack.items (c.len-last.result - 1) c.index-top.result.now (omega arith) c.index-top.ensures in
    rw c.in_ok-push_node-in-Some.ensures (search_push (map names_of c.args.graph.now) c.args.start c.down.reached.items c.down.seen.items c.next_name.new.seen.items c.down.stack.items (c.len-last.result - 1) c.in-Some.name c.down.invariant e
    c.in-Some.ensures.seen c.in-Some.ensures.more (rw t c.in-Some.ensures.name.0) (c.requires.graph c.index-top.result.now c.in-Some.name c.in-Some.ensures.name.0) c.if-name-start.false)

pub down-smaller-in-Continue-branch-4 : goal.down-smaller-in-Continue-branch-4
down-smaller-in-Continue-branch-4 c =
    let l : c.in-Some.name < length c.down.reached.items = omega (arith, c.requires.graph c.index-top.result.now c.in-Some.name c.in-Some.ensures.name.0, c.down.invariant.marks) in
    let f = falses_set c.down.reached.items c.in-Some.name l c.in-Some.ensures.name.1 in
    let p = length_push c.down.stack.items c.in-Some.name in
    let q = ap length c.in_ok-push_node-in-Some.ensures in
    omega (arith, f, p, q)

pub down-preserved : goal.down-preserved
down-preserved c =
    let e : suc (c.len-last.result - 1) ≡ length c.down.stack.items = omega (arith, c.len-last.ensures, c.down-test.true, c.down.stack.ok) in
    let t : get_or c.down.stack.items (c.len-last.result - 1) 0 ≡ c.index-top.result.now = top_is c.down.stack.items (c.len-last.result - 1) c.index-top.result.now (omega arith) c.index-top.ensures in
    rw c.truncate.ensures.items (search_pop (map names_of c.args.graph.now) c.args.start c.down.reached.items c.down.seen.items c.next_name.new.seen.items c.down.stack.items (c.len-last.result - 1) c.down.invariant e
    c.in-None.ensures.seen c.in-None.ensures.more (rw t c.in-None.ensures.name))

pub returns : goal.returns
returns c = search_none (map names_of c.args.graph.now) c.args.start c.down.reached.items c.down.seen.items c.down.stack.items (omega (arith, c.down-test.false, c.down.stack.ok)) c.down.invariant
