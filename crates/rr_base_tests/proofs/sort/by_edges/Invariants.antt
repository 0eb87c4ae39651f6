use Rattle.std.proofs.Common.{map}
use Rattle.rr_sort.specs.Graphs.{names_of, IsGraph}
use Rattle.rr_base_tests.proofs.sort.by_edges.Given as goal

abbrev pub invariant-loop-from : goal.invariant-loop-from
invariant-loop-from l = IsGraph (map names_of l.rows.items)
