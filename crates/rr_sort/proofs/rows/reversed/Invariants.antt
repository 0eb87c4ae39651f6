use Rattle.std.proofs.Common.{◌≡◌, length, map}
use Rattle.rr_sort.specs.Graphs.{names_of, IsGraph}
use Rattle.rr_sort.proofs.rows.reversed.Given as goal

abbrev pub invariant-loop-node : goal.invariant-loop-node
invariant-loop-node l = (length l.rows.items ≡ length l.fn.graph) × IsGraph (map names_of l.rows.items)
