use Rattle.rr_flat.specs.View.{plain_flat}
use Rattle.rr_text_names.specs.Names.{entry}
use Rattle.rr_clock.proofs.Finding.{edge_apart, edge_same}
use Rattle.rr_clock.proofs.clock.edge_runs.Goals as goal

pub returns-then-edge-rising : goal.returns-then-edge-rising
returns-then-edge-rising c = edge_apart (plain_flat c.args.flat.now) (entry c.args.table.now) c.args.clock c.args.scope c.args.edge.now c.args.rising c.if-edge-rising.true

pub returns : goal.returns
returns c = edge_same (plain_flat c.args.flat.now) (entry c.args.table.now) c.args.clock c.args.scope c.args.edge.now c.args.rising c.edge_leads.result c.if-edge-rising.false c.edge_leads.ensures
