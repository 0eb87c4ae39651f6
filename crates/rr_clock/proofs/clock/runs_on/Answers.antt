use Rattle.std.proofs.Common.{◌∙◌, sym}
use Rattle.rr_flat.specs.View.{plain_flat}
use Rattle.rr_text_names.specs.Names.{entry}
use Rattle.rr_clock.proofs.Finding.{runs_skip, runs_hit, runs_done}
use Rattle.rr_clock.proofs.clock.runs_on.Goals as goal

pub loop-edge-preserved : goal.loop-edge-preserved
loop-edge-preserved c =
    runs_skip (plain_flat c.args.flat.now) (entry c.args.table.now) c.args.clock c.args.rising c.args.scope c.args.edges.now c.loop-edge.edge-index _ c.loop-edge-test.true (sym c.edge_runs.ensures ∙ c.if-edge_runs.false) ∙ c.loop-edge.invariant

pub returns-then-edge_runs : goal.returns-then-edge_runs
returns-then-edge_runs c =
    runs_hit (plain_flat c.args.flat.now) (entry c.args.table.now) c.args.clock c.args.rising c.args.scope c.args.edges.now c.loop-edge.edge-index _ c.loop-edge-test.true (sym c.edge_runs.ensures ∙ c.if-edge_runs.true) ∙ c.loop-edge.invariant

pub returns : goal.returns
returns c = runs_done (plain_flat c.args.flat.now) (entry c.args.table.now) c.args.clock c.args.rising c.args.scope c.args.edges.now c.loop-edge.edge-index c.loop-edge-test.false ∙ c.loop-edge.invariant
