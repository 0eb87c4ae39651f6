use Rattle.std.proofs.Common.{arith, ◌≡◌, map, get_or, refl}
use Rattle.rr_sort.specs.Graphs.{names_of, named}
use Rattle.rr_sort.proofs.Sorting.{named_is, name_at, graph_count, seen_set, top_is}
use Rattle.rr_sort.proofs.walk.next_name.Goals as goal

pub next_unmarked-at-requires-clause-inside : goal.next_unmarked-at-requires-clause-inside
next_unmarked-at-requires-clause-inside c = λ i m.
    let n = name_at (map names_of c.args.graph.now) c.args.node c.index-graph-node.result.items i (get_or c.index-graph-node.result.items i 0) (named_is c.args.graph.now c.args.node c.index-graph-node.result c.requires.node c.index-graph-node.is) m refl in
    omega (arith, c.requires.graph c.args.node (get_or c.index-graph-node.result.items i 0) n, graph_count c.args.graph.now, c.requires.count)

pub returns-then-at-len-clause-seen : goal.returns-then-at-len-clause-seen
returns-then-at-len-clause-seen c =
    let x : named (map names_of c.args.graph.now) c.args.node ≡ c.index-graph-node.result.items = named_is c.args.graph.now c.args.node c.index-graph-node.result c.requires.node c.index-graph-node.is in
    let t : get_or c.args.seen.now.items c.args.node 0 ≡ c.index.result.now = top_is c.args.seen.now.items c.args.node c.index.result.now (omega (arith, c.requires.node, c.requires.seen.count, graph_count c.args.graph.now)) c.index.ensures in
    seen_set (map names_of c.args.graph.now) c.args.marked.now.items c.args.seen.now.items c.args.node c.next_unmarked-at.result (omega (arith, c.requires.node, graph_count c.args.graph.now)) c.requires.seen
    (rw x c.next_unmarked-at.ensures.within) (λ i a b. rw x (c.next_unmarked-at.ensures.done i (rw t at a) b))
