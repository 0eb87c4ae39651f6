use Rattle.std.proofs.Common.{◌≡◌, map, drop}
use Rattle.rr_syntax.specs.View.{plain_edge}
use Rattle.rr_clock.specs.Found.{free_among}
use Rattle.rr_clock.proofs.clock.deciding_edge.Given as goal

abbrev pub invariant-loop-edge : goal.invariant-loop-edge
invariant-loop-edge l = free_among l.body (map plain_edge (drop l.edge-index l.edges)) ≡ free_among l.body (map plain_edge l.edges)
