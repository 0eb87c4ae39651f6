use Rattle.std.proofs.Common.{arith, ◌<◌, length, map, get_or, refl}
use Rattle.rr_sort.specs.Graphs.{names_of}
use Rattle.rr_sort.proofs.Sorting.{named_is, name_at, graph_count}
use Rattle.rr_sort.proofs.rows.reversed.Goals as goal

pub join_all-requires-clause-from : goal.join_all-requires-clause-from
join_all-requires-clause-from c = λ i m.
    let l : c.loop-node.node < length c.args.graph.now = omega arith in
    let n = name_at (map names_of c.args.graph.now) c.loop-node.node c.index-graph-node.result.items i (get_or c.index-graph-node.result.items i 0) (named_is c.args.graph.now c.loop-node.node c.index-graph-node.result l c.index-graph-node.is) m refl in
    omega (arith, c.requires c.loop-node.node (get_or c.index-graph-node.result.items i 0) n, graph_count c.args.graph.now, c.loop-node.invariant.0)
