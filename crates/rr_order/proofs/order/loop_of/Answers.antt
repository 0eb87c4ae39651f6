use Rattle.std.proofs.Common.{arith, ◌≡◌, ◌∙◌, ◌-◌, ◌<◌, ap, get_or, length, List}
use Rattle.rr_expr.specs.declared.types.Bit.{Bit}
use Rattle.rr_flat.specs.View.{plain_flat}
use Rattle.rr_sort.proofs.Sorting.{top_is}
use Rattle.rr_order.specs.Nodes.{bits_among}
use Rattle.rr_order.proofs.Telling.{second_is, second_step, step_found, told_loop, plain_graph}
use Rattle.rr_order.proofs.order.loop_of.Goals as goal

pub index-requires : goal.index-requires
index-requires c =
    let e : c.len.result - c.len-2.result ≡ length c.args.nodes.now.rows.items - length c.args.nodes.now.steps.items = omega (arith, c.len.ensures, c.len-2.ensures, c.args.nodes.now.rows.ok, c.args.nodes.now.steps.ok) in
    let g = plain_graph c.args.flat.now c.args.nodes.now.steps.items c.args.nodes.now.rows.items c.requires.graph in
    let s = second_is (plain_flat c.args.flat.now) c.args.nodes.now.steps.items c.args.nodes.now.rows.items c.args.layout.now.table.items c.args.cycle.now.items (c.len.result - c.len-2.result) c.requires.sound g c.requires.layout.table_of c.requires.cycle e in
    omega (arith, s.0, c.args.cycle.now.ok)

pub overflow_sub-index : goal.overflow_sub-index
overflow_sub-index c =
    let e : c.len.result - c.len-2.result ≡ length c.args.nodes.now.rows.items - length c.args.nodes.now.steps.items = omega (arith, c.len.ensures, c.len-2.ensures, c.args.nodes.now.rows.ok, c.args.nodes.now.steps.ok) in
    let g = plain_graph c.args.flat.now c.args.nodes.now.steps.items c.args.nodes.now.rows.items c.requires.graph in
    let s = second_is (plain_flat c.args.flat.now) c.args.nodes.now.steps.items c.args.nodes.now.rows.items c.args.layout.now.table.items c.args.cycle.now.items (c.len.result - c.len-2.result) c.requires.sound g c.requires.layout.table_of c.requires.cycle e in
    let t : get_or c.args.cycle.now.items 1 0 ≡ c.index.result.now = top_is c.args.cycle.now.items 1 c.index.result.now s.0 c.index.ensures in
    omega (arith, s.1.0, t)

pub index-requires-2 : goal.index-requires-2
index-requires-2 c =
    let e : c.len.result - c.len-2.result ≡ length c.args.nodes.now.rows.items - length c.args.nodes.now.steps.items = omega (arith, c.len.ensures, c.len-2.ensures, c.args.nodes.now.rows.ok, c.args.nodes.now.steps.ok) in
    let g = plain_graph c.args.flat.now c.args.nodes.now.steps.items c.args.nodes.now.rows.items c.requires.graph in
    let s = second_is (plain_flat c.args.flat.now) c.args.nodes.now.steps.items c.args.nodes.now.rows.items c.args.layout.now.table.items c.args.cycle.now.items (c.len.result - c.len-2.result) c.requires.sound g c.requires.layout.table_of c.requires.cycle e in
    let t : get_or c.args.cycle.now.items 1 0 ≡ c.index.result.now = top_is c.args.cycle.now.items 1 c.index.result.now s.0 c.index.ensures in
    omega (arith, s.1.1, t, c.args.nodes.now.steps.ok)

pub token_of-token-requires : goal.token_of-token-requires
token_of-token-requires c =
    let e : c.len.result - c.len-2.result ≡ length c.args.nodes.now.rows.items - length c.args.nodes.now.steps.items = omega (arith, c.len.ensures, c.len-2.ensures, c.args.nodes.now.rows.ok, c.args.nodes.now.steps.ok) in
    let g = plain_graph c.args.flat.now c.args.nodes.now.steps.items c.args.nodes.now.rows.items c.requires.graph in
    let s = second_is (plain_flat c.args.flat.now) c.args.nodes.now.steps.items c.args.nodes.now.rows.items c.args.layout.now.table.items c.args.cycle.now.items (c.len.result - c.len-2.result) c.requires.sound g c.requires.layout.table_of c.requires.cycle e in
    let t : get_or c.args.cycle.now.items 1 0 ≡ c.index.result.now = top_is c.args.cycle.now.items 1 c.index.result.now s.0 c.index.ensures in
    let m : c.index.result.now - (c.len.result - c.len-2.result) < length c.args.nodes.now.steps.items = omega (arith, s.1.1, t) in
    let q = step_found c.args.nodes.now.steps.items c.args.cycle.now.items (c.len.result - c.len-2.result) c.index.result.now c.index-2.result.now m t c.index-2.ensures in
    second_step (plain_flat c.args.flat.now) c.args.nodes.now.steps.items c.args.nodes.now.rows.items c.args.layout.now.table.items c.args.cycle.now.items (c.len.result - c.len-2.result) c.index-2.result.now c.requires.sound g c.requires.layout.table_of c.requires.cycle e q

pub returns : goal.returns
returns c =
    let e : c.len.result - c.len-2.result ≡ length c.args.nodes.now.rows.items - length c.args.nodes.now.steps.items = omega (arith, c.len.ensures, c.len-2.ensures, c.args.nodes.now.rows.ok, c.args.nodes.now.steps.ok) in
    let g = plain_graph c.args.flat.now c.args.nodes.now.steps.items c.args.nodes.now.rows.items c.requires.graph in
    let s = second_is (plain_flat c.args.flat.now) c.args.nodes.now.steps.items c.args.nodes.now.rows.items c.args.layout.now.table.items c.args.cycle.now.items (c.len.result - c.len-2.result) c.requires.sound g c.requires.layout.table_of c.requires.cycle e in
    let t : get_or c.args.cycle.now.items 1 0 ≡ c.index.result.now = top_is c.args.cycle.now.items 1 c.index.result.now s.0 c.index.ensures in
    let m : c.index.result.now - (c.len.result - c.len-2.result) < length c.args.nodes.now.steps.items = omega (arith, s.1.1, t) in
    let q = step_found c.args.nodes.now.steps.items c.args.cycle.now.items (c.len.result - c.len-2.result) c.index.result.now c.index-2.result.now m t c.index-2.ensures in
    told_loop (plain_flat c.args.flat.now) c.args.nodes.now.steps.items c.args.nodes.now.rows.items c.args.layout.now.table.items c.in_ok-bits.bits.items c.args.cycle.now.items (c.len.result - c.len-2.result) c.token_of-token.result c.index-2.result.now c.requires.sound g c.requires.layout.table_of c.requires.cycle e
    (c.in_ok-bits.ensures ∙ (ap (λ (x : List Bit). bits_among x c.as_slice-2.result.now) c.as_slice.ensures.value ∙ ap (bits_among c.args.layout.now.table.items) c.as_slice-2.ensures.value)) q c.token_of-token.ensures
