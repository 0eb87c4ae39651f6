use Rattle.std.proofs.Common.{map}
use Rattle.rr_sort.specs.Graphs.{names_of}
use Rattle.rr_sort.specs.Walks.{IsReached, IsOff}
use Rattle.rr_sort.proofs.search.off_cycles.Given as goal

abbrev pub invariant-loop-at : goal.invariant-loop-at
invariant-loop-at l =
    IsReached (map names_of l.fn.graph) l.reached.reached.items l.reached.seen.items l.reached.order.items
    × IsOff (map names_of l.fn.graph) l.off.items
