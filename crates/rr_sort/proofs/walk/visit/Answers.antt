use Rattle.std.proofs.Common.{arith, ◌≡◌, ◌<◌, ◌-◌, ◌∙◌, suc, length, map, get_or, ap, false}
use Rattle.std.proofs.lemmas.List.{length-take-le}
use Rattle.rr_sort.specs.Graphs.{names_of}
use Rattle.rr_sort.proofs.Sorting.{top_is, mark_is, graph_count, length_push, down_pop, down_push, down_cycle, down_few}
use Rattle.rr_sort.proofs.walk.visit.Goals as goal

pub index-requires : goal.index-requires
index-requires c = omega (arith, c.requires.graph c.index-top.result.now c.in-Some.name c.in-Some.ensures.name.0, c.down.invariant.on.count)

pub index_mut-requires-in-Some : goal.index_mut-requires-in-Some
index_mut-requires-in-Some c = omega (arith, c.requires.graph c.index-top.result.now c.in-Some.name c.in-Some.ensures.name.0, c.down.invariant.on.count)

pub returns-then-index : goal.returns-then-index
returns-then-index c =
    let e : suc (c.len-last.result - 1) ≡ length c.down.stack.items = omega (arith, c.len-last.ensures, c.down-test.true, c.down.stack.ok) in
    let t : get_or c.down.stack.items (c.len-last.result - 1) 0 ≡ c.index-top.result.now = top_is c.down.stack.items (c.len-last.result - 1) c.index-top.result.now (omega arith) c.index-top.ensures in
    let l : c.in-Some.name < length c.down.walk.stacked.items = omega (arith, c.requires.graph c.index-top.result.now c.in-Some.name c.in-Some.ensures.name.0, c.down.invariant.on.count) in
    let s : get_or c.down.walk.stacked.items c.in-Some.name false ≡ c.index.result.now = mark_is c.down.walk.stacked.items c.in-Some.name c.index.result.now l c.index.ensures in
    down_cycle (map names_of c.args.graph.now) c.args.start c.args.walk.now.placed.items c.down.walk.order.items c.down.walk.placed.items c.down.walk.seen.items c.down.walk.stacked.items c.down.stack.items (c.len-last.result - 1) c.in-Some.name c.down.invariant e
    (s ∙ c.if-index.true) (rw t c.in-Some.ensures.name.0)

pub down-preserved-in-Continue-branch-2 : goal.down-preserved-in-Continue-branch-2
down-preserved-in-Continue-branch-2 c =
    let e : suc (c.len-last.result - 1) ≡ length c.down.stack.items = omega (arith, c.len-last.ensures, c.down-test.true, c.down.stack.ok) in
    let t : get_or c.down.stack.items (c.len-last.result - 1) 0 ≡ c.index-top.result.now = top_is c.down.stack.items (c.len-last.result - 1) c.index-top.result.now (omega arith) c.index-top.ensures in
    let l : c.in-Some.name < length c.down.walk.stacked.items = omega (arith, c.requires.graph c.index-top.result.now c.in-Some.name c.in-Some.ensures.name.0, c.down.invariant.on.count) in
    let s : get_or c.down.walk.stacked.items c.in-Some.name false ≡ c.index.result.now = mark_is c.down.walk.stacked.items c.in-Some.name c.index.result.now l c.index.ensures in
    rw c.in_ok-push_node-in-Some.ensures (down_push (map names_of c.args.graph.now) c.args.start c.args.walk.now.placed.items c.down.walk.order.items c.down.walk.placed.items c.down.walk.seen.items c.next_name.new.seen.items c.down.walk.stacked.items c.down.stack.items (c.len-last.result - 1) c.in-Some.name c.down.invariant e
    (c.requires.graph c.index-top.result.now c.in-Some.name c.in-Some.ensures.name.0) c.in-Some.ensures.name.1 (s ∙ c.if-index.false) (rw t c.in-Some.ensures.name.0) c.in-Some.ensures.seen)

pub down-smaller-in-Continue-branch-2 : goal.down-smaller-in-Continue-branch-2
down-smaller-in-Continue-branch-2 c =
    let f = down_few _ _ _ _ _ _ _ _ (down-preserved-in-Continue-branch-2 c) in
    let p = length_push c.down.stack.items c.in-Some.name in
    let q = ap length c.in_ok-push_node-in-Some.ensures in
    omega (arith, f.1, p, q, graph_count c.args.graph.now)

pub down-preserved : goal.down-preserved
down-preserved c =
    let e : suc (c.len-last.result - 1) ≡ length c.down.stack.items = omega (arith, c.len-last.ensures, c.down-test.true, c.down.stack.ok) in
    let t : get_or c.down.stack.items (c.len-last.result - 1) 0 ≡ c.index-top.result.now = top_is c.down.stack.items (c.len-last.result - 1) c.index-top.result.now (omega arith) c.index-top.ensures in
    rw (c.in_ok-push_node-in-None.ensures, c.truncate.ensures.items) (down_pop (map names_of c.args.graph.now) c.args.start c.args.walk.now.placed.items c.down.walk.order.items c.down.walk.placed.items c.down.walk.seen.items c.next_name.new.seen.items c.down.walk.stacked.items c.down.stack.items (c.len-last.result - 1) c.index-top.result.now c.down.invariant e t
    c.in-None.ensures.seen c.in-None.ensures.name)

pub down-smaller : goal.down-smaller
down-smaller c =
    let e : suc (c.len-last.result - 1) ≡ length c.down.stack.items = omega (arith, c.len-last.ensures, c.down-test.true, c.down.stack.ok) in
    let t : get_or c.down.stack.items (c.len-last.result - 1) 0 ≡ c.index-top.result.now = top_is c.down.stack.items (c.len-last.result - 1) c.index-top.result.now (omega arith) c.index-top.ensures in
    let f = down_few _ _ _ _ _ _ _ _ (down-preserved c) in
    let p = length_push c.down.walk.order.items c.index-top.result.now in
    let q = ap length c.in_ok-push_node-in-None.ensures in
    let u = ap length c.truncate.ensures.items in
    let v = length-take-le (c.len-last.result - 1) c.down.stack.items (omega arith) in
    omega (arith, f.0, p, q, u, v, e, graph_count c.args.graph.now)
