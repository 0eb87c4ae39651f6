use Rattle.std.proofs.Common.{arith, ap, length, map, ◌≡◌, ◌<◌, ◌+◌, suc, get_or}
use Rattle.rr_flat.specs.declared.design.Step.TheVariants as design_step
use Rattle.rr_flat.specs.View.{plain_flat}
use Rattle.rr_sort.specs.Graphs.{names_of}
use Rattle.rr_sort.proofs.Sorting.{top_is, graph_count}
use Rattle.rr_order.specs.Nodes.{IsNamedBy, IsWrittenBy, start_of, widths}
use Rattle.rr_order.proofs.Layouts.{start_more}
use Rattle.rr_order.proofs.Lists.{map_push}
use Rattle.rr_order.proofs.Building.{signals_none, signals_more, graph_none}
use Rattle.rr_order.proofs.graph.without_steps.Goals as goal

pub loop-signal-init : goal.loop-signal-init
loop-signal-init c = signals_none (widths (plain_flat c.args.flat.now)) (map names_of c.in_ok-rows.rows.items) (omega (arith, graph_count c.in_ok-rows.rows.items, c.in_ok-rows.ensures.count, c.len.ensures, c.requires.table_of.count, c.args.layout.now.table.ok)) c.in_ok-rows.ensures.none

pub rising-requires : goal.rising-requires
rising-requires c =
    let l : c.loop-signal.signal < length (widths (plain_flat c.args.flat.now)) = omega (arith, c.loop-signal-test.true, c.signal_count-signal-end.ensures.value) in
    let a = top_is c.args.layout.now.starts.items c.loop-signal.signal c.index.result.now (omega (arith, l, c.requires.count)) c.index.ensures in
    let b = top_is c.args.layout.now.starts.items (c.loop-signal.signal + 1) c.index-in-loop-signal.result.now (omega (arith, l, c.requires.count)) c.index-in-loop-signal.ensures in
    let u : suc c.loop-signal.signal ≡ c.loop-signal.signal + 1 = omega arith in
    omega (arith, a, b, c.requires.starts_at c.loop-signal.signal (omega (arith, l)), c.requires.starts_at (c.loop-signal.signal + 1) (omega (arith, l)), start_more (widths (plain_flat c.args.flat.now)) c.loop-signal.signal l, ap (start_of (widths (plain_flat c.args.flat.now))) u)

pub loop-signal-preserved : goal.loop-signal-preserved
loop-signal-preserved c =
    let l : c.loop-signal.signal < length (widths (plain_flat c.args.flat.now)) = omega (arith, c.loop-signal-test.true, c.signal_count-signal-end.ensures.value) in
    let a : get_or c.args.layout.now.starts.items c.loop-signal.signal 0 ≡ c.index.result.now = top_is c.args.layout.now.starts.items c.loop-signal.signal c.index.result.now (omega (arith, l, c.requires.count)) c.index.ensures in
    let b : get_or c.args.layout.now.starts.items (c.loop-signal.signal + 1) 0 ≡ c.index-in-loop-signal.result.now = top_is c.args.layout.now.starts.items (c.loop-signal.signal + 1) c.index-in-loop-signal.result.now (omega (arith, l, c.requires.count)) c.index-in-loop-signal.ensures in
    let u : suc c.loop-signal.signal ≡ c.loop-signal.signal + 1 = omega arith in
    let s = c.requires.starts_at c.loop-signal.signal (omega (arith, l)) in
    let t = c.requires.starts_at (c.loop-signal.signal + 1) (omega (arith, l)) in
    let m = start_more (widths (plain_flat c.args.flat.now)) c.loop-signal.signal l in
    let n = ap (start_of (widths (plain_flat c.args.flat.now))) u in
    rw (c.in_ok-push.ensures.items, map_push c.loop-signal.rows.items c.in_ok-rising.field-0)
    (signals_more (widths (plain_flat c.args.flat.now)) c.loop-signal.signal (map names_of c.loop-signal.rows.items) c.in_ok-rising.field-0.items l c.loop-signal.invariant
    (omega (arith, c.in_ok-rising.ensures.count, a, b, s, t, m, n)) (λ i o. let r = c.in_ok-rising.ensures.numbers i (omega (arith, a, b, s, t, m, n, o)) in omega (arith, r, a, s)))

pub returns-clause-graph : goal.returns-clause-graph
returns-clause-graph c = graph_none (design_step.Block 0) (widths (plain_flat c.args.flat.now)) (IsWrittenBy (plain_flat c.args.flat.now)) (IsNamedBy (plain_flat c.args.flat.now)) c.loop-signal.signal (map names_of c.loop-signal.rows.items)
    (omega (arith, c.loop-signal-test.false, c.loop-signal.auto.signal-end, c.signal_count-signal-end.ensures.value)) c.loop-signal.invariant
