use Rattle.std.proofs.Common.{arith, ◌-◌}
use Rattle.std.proofs.lemmas.Result.{IfOk-weaker}
use Rattle.rr_flat.specs.View.{plain_flat}
use Rattle.rr_sort.proofs.Sorting.{graph_count}
use Rattle.rr_order.proofs.Naming.{ordered_ranks}
use Rattle.rr_order.proofs.Telling.{told_slices, plain_graph}
use Rattle.rr_order.proofs.order.order_of.Goals as goal

pub steps_among-requires : goal.steps_among-requires
steps_among-requires c = rw c.as_slice-2.ensures.value (λ i l. omega (arith, c.requires.order.inside i l, graph_count c.args.nodes.now.rows.items, c.requires.graph.graph.count, c.len.ensures, c.len-2.ensures, c.as_slice.ensures.len, c.args.nodes.now.rows.ok, c.args.nodes.now.steps.ok))

pub returns-clause-order : goal.returns-clause-order
returns-clause-order c =
    IfOk-weaker c.steps_among.result _ _
    (λ r h. told_slices (plain_flat c.args.flat.now) c.args.nodes.now.steps.items c.as_slice.result.now r.items c.args.nodes.now.rows.items c.args.order.now.items c.as_slice-2.result.now (c.len.result - c.len-2.result) c.requires.sound
    (plain_graph c.args.flat.now c.args.nodes.now.steps.items c.args.nodes.now.rows.items c.requires.graph) c.requires.order (omega (arith, c.len.ensures, c.len-2.ensures, c.args.nodes.now.rows.ok, c.args.nodes.now.steps.ok)) c.as_slice.ensures.value c.as_slice-2.ensures.value h)
    c.steps_among.ensures

pub returns-clause-ranks : goal.returns-clause-ranks
returns-clause-ranks c =
    IfOk-weaker c.steps_among.result _ _
    (λ r h. ordered_ranks (plain_flat c.args.flat.now) r.items (told_slices (plain_flat c.args.flat.now) c.args.nodes.now.steps.items c.as_slice.result.now r.items c.args.nodes.now.rows.items c.args.order.now.items c.as_slice-2.result.now (c.len.result - c.len-2.result) c.requires.sound
    (plain_graph c.args.flat.now c.args.nodes.now.steps.items c.args.nodes.now.rows.items c.requires.graph) c.requires.order (omega (arith, c.len.ensures, c.len-2.ensures, c.args.nodes.now.rows.ok, c.args.nodes.now.steps.ok)) c.as_slice.ensures.value c.as_slice-2.ensures.value h))
    c.steps_among.ensures
