use Rattle.std.proofs.Common.{◌+◌, ◌*◌, length, map}
use Rattle.rr_sort.specs.Graphs.{names_of}
use Rattle.rr_sort.proofs.Searching.{falses, IsSearch}
use Rattle.rr_sort.proofs.search.cycle_through.Given as goal

abbrev pub invariant-down : goal.invariant-down
invariant-down l = IsSearch (map names_of l.fn.graph) l.fn.start l.reached.items l.seen.items l.stack.items

abbrev pub decreases-down : goal.decreases-down
decreases-down l = 2 * falses l.reached.items + length l.stack.items
