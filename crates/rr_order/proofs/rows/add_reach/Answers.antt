use Rattle.std.proofs.Common.{arith}
use Rattle.rr_flat.specs.View.{plain_flat}
use Rattle.rr_order.specs.Nodes.{Foreign, widths}
use Rattle.rr_order.proofs.Covering.{words_covered_none, words_covered, words_covered_all}
use Rattle.rr_order.proofs.rows.add_reach.Goals as goal

pub loop-word-init : goal.loop-word-init
loop-word-init c = words_covered_none (widths (plain_flat c.args.flat.now)) c.args.row.now.items c.args.reach.now (Foreign (widths (plain_flat c.args.flat.now)) c.args.own.now.items c.args.stamp)

pub loop-word-preserved : goal.loop-word-preserved
loop-word-preserved c =
    words_covered (widths (plain_flat c.args.flat.now)) c.args.row.now.items c.loop-word.row.items c.add_piece.new.row.items c.args.reach.now c.loop-word.word _
    (Foreign (widths (plain_flat c.args.flat.now)) c.args.own.now.items c.args.stamp) c.in_ok-piece.ensures c.loop-word.invariant c.in_ok-add_piece.ensures

pub returns : goal.returns
returns c =
    words_covered_all (widths (plain_flat c.args.flat.now)) c.args.row.now.items c.loop-word.row.items c.args.reach.now c.loop-word.word (Foreign (widths (plain_flat c.args.flat.now)) c.args.own.now.items c.args.stamp)
    (omega (arith, c.loop-word-test.false, c.loop-word.auto.word-end)) c.loop-word.invariant
