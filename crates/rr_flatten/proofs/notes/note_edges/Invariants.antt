use Rattle.std.proofs.Common.{◌≡◌, drop, fold, map}
use Rattle.rr_syntax.specs.View.{plain_edge}
use Rattle.rr_flat.specs.Faults.{sooner}
use Rattle.rr_flatten.specs.Walk.{edges_faults}
use Rattle.rr_flatten.proofs.notes.note_edges.Given as goal

abbrev pub invariant-loop-edge : goal.invariant-loop-edge
invariant-loop-edge l = fold sooner l.found (edges_faults l.loops l.names (map plain_edge (drop l.edge-index l.edges))) ≡ fold sooner l.fn.found (edges_faults l.loops l.names (map plain_edge l.edges))
