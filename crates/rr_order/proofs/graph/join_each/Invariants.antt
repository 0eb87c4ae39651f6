use Rattle.std.proofs.Common.{take, map}
use Rattle.rr_sort.specs.Graphs.{names_of}
use Rattle.rr_order.specs.Nodes.{Joined}
use Rattle.rr_order.proofs.graph.join_each.Given as goal

abbrev pub invariant-loop-node : goal.invariant-loop-node
invariant-loop-node l = Joined (map names_of l.fn.rows.items) (map names_of l.rows.items) (take l.node-index l.nodes) l.to
