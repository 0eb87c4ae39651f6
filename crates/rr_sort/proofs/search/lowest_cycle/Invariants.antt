use Rattle.std.proofs.Common.{◌<◌, ℕ, map}
use Rattle.rr_sort.specs.Graphs.{names_of, OnCycle}
use Rattle.rr_sort.proofs.search.lowest_cycle.Given as goal

abbrev pub invariant-loop-node : goal.invariant-loop-node
invariant-loop-node l = (v : ℕ) → v < l.node → OnCycle (map names_of l.fn.graph) v → ⊥
