use Rattle.std.proofs.Common.{arith, map}
use Rattle.rr_sort.specs.Graphs.{names_of}
use Rattle.rr_sort.proofs.Sorting.{join_graph, graph_count}
use Rattle.rr_base_tests.proofs.sort.add_edge.Goals as goal

pub returns-then-to-len : goal.returns-then-to-len
returns-then-to-len c =
    let a = graph_count c.args.rows.now.items in
    join_graph (map names_of c.args.rows.now.items) (map names_of c.join.new.rows.items) c.args.from c.args.to c.in_ok-join.ensures
    (omega (arith, a, c.if-from-len.true, c.len.ensures, c.args.rows.now.ok)) (omega (arith, a, c.if-to-len.true, c.args.rows.now.ok)) c.requires
