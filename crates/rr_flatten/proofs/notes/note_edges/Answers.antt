use Rattle.std.proofs.Common.{◌∙◌, sym, ap, drop, fold, map, ◌+◌}
use Rattle.rr_syntax.specs.View.{plain_edge}
use Rattle.rr_flat.specs.Faults.{sooner}
use Rattle.rr_flatten.specs.Walk.{edges_faults}
use Rattle.rr_flatten.proofs.NotesOfNodes.{edges_more, edges_done}
use Rattle.rr_flatten.proofs.notes.note_edges.Goals as goal

pub loop-edge-preserved : goal.loop-edge-preserved
loop-edge-preserved c =
    ap (λ z. fold sooner z (edges_faults c.args.loops.now c.args.names.now (map plain_edge (drop (c.loop-edge.edge-index + 1) c.args.edges.now)))) c.note_edge-found.ensures
    ∙ (edges_more c.loop-edge.found c.args.loops.now c.args.names.now c.args.edges.now c.loop-edge.edge-index _ c.loop-edge-test.true ∙ c.loop-edge.invariant)

pub returns : goal.returns
returns c = sym (edges_done c.loop-edge.found c.args.loops.now c.args.names.now c.args.edges.now c.loop-edge.edge-index c.loop-edge-test.false) ∙ c.loop-edge.invariant
