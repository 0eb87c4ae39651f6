use Rattle.std.proofs.Common.{◌+◌, ◌*◌, length, map}
use Rattle.rr_sort.specs.Graphs.{names_of}
use Rattle.rr_sort.proofs.Searching.{falses, IsFlooding}
use Rattle.rr_sort.proofs.search.flood.Given as goal

abbrev pub invariant-down : goal.invariant-down
invariant-down l = IsFlooding (map names_of l.fn.graph) l.reached.reached.items l.reached.seen.items l.reached.order.items l.stack.items

abbrev pub decreases-down : goal.decreases-down
decreases-down l = 2 * falses l.reached.reached.items + length l.stack.items
