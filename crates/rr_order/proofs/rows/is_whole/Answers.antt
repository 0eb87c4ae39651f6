use Rattle.std.proofs.Common.{arith, ◌≡◌, ◌+◌, ◌<◌, length, get_or, sym, ap, ◌∙◌, ℕ, suc}
use Rattle.rr_flat.specs.View.{plain_flat}
use Rattle.rr_sort.proofs.Sorting.{top_is}
use Rattle.rr_order.specs.Nodes.{start_of, bit_node, widths}
use Rattle.rr_order.proofs.Layouts.{start_more, start_mono}
use Rattle.rr_order.proofs.rows.is_whole.Goals as goal

pub has_none-requires : goal.has_none-requires
has_none-requires c =
    let l : c.args.signal < length (widths (plain_flat c.args.flat.now)) = omega (arith, c.if-id-signal_count.false, c.signal_count.ensures.value) in
    let t = top_is c.args.layout.now.starts.items c.args.signal c.index.result.now (omega (arith, l, c.requires.layout.count)) c.index.ensures in
    omega (arith, t, c.requires.layout.starts_at c.args.signal (omega (arith, l)), start_more (widths (plain_flat c.args.flat.now)) c.args.signal l, start_mono (widths (plain_flat c.args.flat.now)) (suc c.args.signal) (length (widths (plain_flat c.args.flat.now))) (omega (arith, l)), c.width_of-width.ensures.value, c.requires.own)

pub returns-clause-there : goal.returns-clause-there
returns-clause-there c = λ t. omega (arith, c.if-id-signal_count.false, c.signal_count.ensures.value)

pub returns-clause-whole : goal.returns-clause-whole
returns-clause-whole c = λ t b v q.
    let l : c.args.signal < length (widths (plain_flat c.args.flat.now)) = omega (arith, c.if-id-signal_count.false, c.signal_count.ensures.value) in
    let e : get_or c.args.layout.now.starts.items c.args.signal 0 ≡ c.index.result.now = top_is c.args.layout.now.starts.items c.args.signal c.index.result.now (omega (arith, l, c.requires.layout.count)) c.index.ensures in
    let w : get_or (widths (plain_flat c.args.flat.now)) b.signal 0 ≡ c.width_of-width.result = ap (λ (n : ℕ). get_or (widths (plain_flat c.args.flat.now)) n 0) q ∙ c.width_of-width.ensures.value in
    let s : bit_node (widths (plain_flat c.args.flat.now)) b ≡ c.index.result.now + b.place = omega (arith, ap (start_of (widths (plain_flat c.args.flat.now))) q, e, c.requires.layout.starts_at c.args.signal (omega (arith, l))) in
    (omega (arith, c.if-low-gt0.false), (omega (arith, w, v.1, c.if-high-width.false), λ x. c.has_none.ensures t b.place (omega (arith, w, v.1)) (sym (ap (λ (n : ℕ). get_or c.args.own.now.items n 0) s) ∙ x)))
