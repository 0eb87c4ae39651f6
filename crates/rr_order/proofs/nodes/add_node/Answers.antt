use Rattle.std.proofs.Common.{arith, ◌≡◌, get_or, ℕ, refl, ap, sym, ◌∙◌}
use Rattle.rr_flat.specs.View.{plain_flat}
use Rattle.rr_sort.proofs.Sorting.{top_is}
use Rattle.rr_order.specs.Nodes.{Foreign, bit_node, widths}
use Rattle.rr_order.proofs.Layouts.{node_below}
use Rattle.rr_order.proofs.Lists.{added_push}
use Rattle.rr_order.proofs.nodes.add_node.Goals as goal

pub returns-in_ok-push_node-in-Some : goal.returns-in_ok-push_node-in-Some
returns-in_ok-push_node-in-Some c =
    let v = c.in-Some.ensures.0 in
    let e : c.in-Some.node ≡ bit_node (widths (plain_flat c.args.flat.now)) c.args.bit = c.in-Some.ensures.1 in
    let t : get_or c.args.own.now.items c.in-Some.node 0 ≡ c.index.result.now = top_is c.args.own.now.items c.in-Some.node c.index.result.now (omega (arith, node_below (widths (plain_flat c.args.flat.now)) c.args.bit v, e, c.requires.own)) c.index.ensures in
    rw c.in_ok-push_node-in-Some.ensures (added_push (widths (plain_flat c.args.flat.now)) c.args.nodes.now.items c.in-Some.node c.args.bit (λ b. (b ≡ c.args.bit) × Foreign (widths (plain_flat c.args.flat.now)) c.args.own.now.items c.args.stamp b)
    v e (refl, λ q. c.if-index-stamp.true (sym t ∙ (ap (λ (n : ℕ). get_or c.args.own.now.items n 0) e ∙ q))) (λ b p. p.0))
