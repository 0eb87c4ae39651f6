use Rattle.std.proofs.Common.{◌∙◌, sym}
use Rattle.rr_flat.specs.View.{plain_flat}
use Rattle.rr_text_names.specs.Names.{entry}
use Rattle.rr_clock.proofs.Finding.{rising_skip, rising_hit, rising_done}
use Rattle.rr_clock.proofs.clock.first_edge.Goals as goal

pub loop-edge-preserved : goal.loop-edge-preserved
loop-edge-preserved c =
    rising_skip (plain_flat c.args.flat.now) (entry c.args.table.now) c.args.clock c.args.scope c.args.edges.now c.loop-edge.edge-index _ c.loop-edge-test.true (sym c.edge_leads.ensures ∙ c.if-edge_leads.false) ∙ c.loop-edge.invariant

pub returns-then-edge_leads : goal.returns-then-edge_leads
returns-then-edge_leads c =
    rising_hit (plain_flat c.args.flat.now) (entry c.args.table.now) c.args.clock c.args.scope c.args.edges.now c.loop-edge.edge-index _ c.loop-edge-test.true (sym c.edge_leads.ensures ∙ c.if-edge_leads.true) ∙ c.loop-edge.invariant

pub returns : goal.returns
returns c = rising_done (plain_flat c.args.flat.now) (entry c.args.table.now) c.args.clock c.args.scope c.args.edges.now c.loop-edge.edge-index c.loop-edge-test.false ∙ c.loop-edge.invariant
