use Rattle.std.proofs.Common.{arith, ◌≡◌, ◌<◌, ◌+◌, ℕ, get_or, length, Some, None}
use Rattle.rr_flat.specs.View.{plain_flat}
use Rattle.rr_order.specs.Nodes.{widths}
use Rattle.rr_flat.proofs.Bits.{place_inside}
use Rattle.rr_order.proofs.Lists.{written_more, written_same, entry_more}
use Rattle.rr_order.proofs.nodes.nodes_of.Goals as goal

pub loop-bit-preserved : goal.loop-bit-preserved
loop-bit-preserved c = written_more (widths (plain_flat c.args.flat.now)) c.loop-bit.nodes.items c.add_bit.new.nodes.items
    (λ b. (i : ℕ) × ((i < c.loop-bit.bit-index) × (get_or c.args.bits.now i None ≡ Some b)))
    (λ b. get_or c.args.bits.now c.loop-bit.bit-index None ≡ Some b)
    (λ b. (i : ℕ) × ((i < c.loop-bit.bit-index + 1) × (get_or c.args.bits.now i None ≡ Some b)))
    c.loop-bit.invariant c.in_ok-add_bit.ensures (λ b p. (p.0, (omega (arith, p.1.0), p.1.1))) (λ b q. (c.loop-bit.bit-index, (omega arith, q))) (entry_more c.args.bits.now c.loop-bit.bit-index)

pub returns : goal.returns
returns c = written_same (widths (plain_flat c.args.flat.now)) c.loop-bit.nodes.items
    (λ b. (i : ℕ) × ((i < c.loop-bit.bit-index) × (get_or c.args.bits.now i None ≡ Some b)))
    (λ b. (i : ℕ) × ((i < length c.args.bits.now) × (get_or c.args.bits.now i None ≡ Some b)))
    c.loop-bit.invariant (λ b p. (p.0, (place_inside c.args.bits.now b p.0 p.1.1, p.1.1))) (λ b p. (p.0, (omega (arith, p.1.0, c.loop-bit-test.false), p.1.1)))
