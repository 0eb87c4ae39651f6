use Rattle.std.proofs.Common.{◌≡◌, length, map}
use Rattle.rr_sort.specs.Graphs.{names_of, IsGraph}
use Rattle.rr_sort.proofs.rows.join_all.Given as goal

abbrev pub invariant-loop-name : goal.invariant-loop-name
invariant-loop-name l = (length l.rows.items ≡ length l.fn.rows.items) × IsGraph (map names_of l.rows.items)
