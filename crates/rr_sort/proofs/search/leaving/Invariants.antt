use Rattle.std.proofs.Common.{map}
use Rattle.rr_sort.specs.Graphs.{names_of}
use Rattle.rr_sort.specs.Walks.{IsReached}
use Rattle.rr_sort.proofs.search.leaving.Given as goal

abbrev pub invariant-loop-node : goal.invariant-loop-node
invariant-loop-node l = IsReached (map names_of l.fn.graph) l.reached.reached.items l.reached.seen.items l.reached.order.items
