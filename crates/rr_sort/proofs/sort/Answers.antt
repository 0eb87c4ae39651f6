use Rattle.std.proofs.Common.{arith, map}
use Rattle.rr_sort.specs.Graphs.{names_of}
use Rattle.rr_sort.proofs.Sorting.{graph_count, finished}
use Rattle.rr_sort.proofs.sort.Goals as goal

pub returns : goal.returns
returns c = finished (map names_of c.args.graph.now) c.loop-node.walk.order.items c.loop-node.walk.placed.items c.loop-node.invariant.0.done (λ v l. c.loop-node.invariant.1 v (omega (arith, graph_count c.args.graph.now, c.loop-node-test.false)))
