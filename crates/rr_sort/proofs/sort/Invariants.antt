use Rattle.std.proofs.Common.{◌≡◌, ◌<◌, ℕ, get_or, map, true, false}
use Rattle.rr_sort.specs.Graphs.{names_of}
use Rattle.rr_sort.specs.Walks.{IsBetween}
use Rattle.rr_sort.proofs.sort.Given as goal

abbrev pub invariant-loop-node : goal.invariant-loop-node
invariant-loop-node l =
    IsBetween (map names_of l.fn.graph) l.walk.order.items l.walk.placed.items l.walk.seen.items l.walk.stacked.items
    × ((v : ℕ) → v < l.node → get_or l.walk.placed.items v false ≡ true)
