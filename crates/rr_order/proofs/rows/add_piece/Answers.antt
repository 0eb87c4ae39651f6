use Rattle.std.proofs.Common.{arith, ◌≡◌, ◌+◌, true, sym, ◌∙◌, List, ℕ}
use Rattle.std.proofs.lemmas.Result.{on_ok_weaker}
use Rattle.rr_flat.specs.View.{plain_flat}
use Rattle.rr_named_bits.specs.Pieces.{covers}
use Rattle.rr_order.specs.Nodes.{Foreign, widths}
use Rattle.rr_order.proofs.Covering.{Run, run_covers, covers_run, run_true}
use Rattle.rr_order.proofs.Lists.{covered_whole, covered_added}
use Rattle.rr_order.proofs.rows.add_piece.Goals as goal

pub returns : goal.returns
returns c =
    let ws : List ℕ = widths (plain_flat c.args.flat.now) in
    on_ok_weaker c.add_places.result
    (λ h. covered_added (widths (plain_flat c.args.flat.now)) c.args.row.now.items c.add_places.new.nodes.items
    (Run c.args.piece.now.signal c.range-places.result.0 c.range-places.result.1 (Foreign (widths (plain_flat c.args.flat.now)) c.args.own.now.items c.args.stamp))
    (λ b. (covers c.args.piece.now b ≡ true) × Foreign (widths (plain_flat c.args.flat.now)) c.args.own.now.items c.args.stamp b) h
    (run_covers c.args.piece.now c.range-places.result.0 c.range-places.result.1 (Foreign (widths (plain_flat c.args.flat.now)) c.args.own.now.items c.args.stamp) c.range-places.ensures.covered)
    (covers_run c.args.piece.now c.range-places.result.0 c.range-places.result.1 (Foreign (widths (plain_flat c.args.flat.now)) c.args.own.now.items c.args.stamp) c.range-places.ensures.covered))
    c.add_places.ensures

pub returns-then-is_whole : goal.returns-then-is_whole
returns-then-is_whole c =
    on_ok_weaker c.push_node.result
    (λ e. rw e (covered_whole (widths (plain_flat c.args.flat.now)) c.args.row.now.items c.args.piece.now.signal (c.len.result + c.args.piece.now.signal)
    (λ b. (covers c.args.piece.now b ≡ true) × Foreign (widths (plain_flat c.args.flat.now)) c.args.own.now.items c.args.stamp b)
    (c.is_whole.ensures.there c.if-is_whole.true) (omega (arith, c.len.ensures, c.requires.layout.table_of.count, c.args.layout.now.table.ok))
    (λ b v q. let r = c.is_whole.ensures.whole c.if-is_whole.true b v q in run_covers c.args.piece.now c.range-places.result.0 c.range-places.result.1 (Foreign (widths (plain_flat c.args.flat.now)) c.args.own.now.items c.args.stamp) c.range-places.ensures.covered b (q, r))
    (λ b p. (run_true c.args.piece.now.signal c.range-places.result.0 c.range-places.result.1 b (sym (c.range-places.ensures.covered b) ∙ p.0)).0)))
    c.push_node.ensures
