use Rattle.std.proofs.Common.{◌+◌, ◌-◌, ◌*◌, length, map}
use Rattle.rr_sort.specs.Graphs.{names_of}
use Rattle.rr_sort.specs.Walks.{IsDown}
use Rattle.rr_sort.proofs.walk.visit.Given as goal

abbrev pub invariant-down : goal.invariant-down
invariant-down l = IsDown (map names_of l.fn.graph) l.fn.start l.fn.walk.placed.items l.walk.order.items l.walk.placed.items l.walk.seen.items l.walk.stacked.items l.stack.items

abbrev pub decreases-down : goal.decreases-down
decreases-down l = 2 * (length l.fn.graph - length l.walk.order.items) + (length l.fn.graph - length l.stack.items)
