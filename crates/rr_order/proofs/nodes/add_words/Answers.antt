use Rattle.std.proofs.Common.{arith}
use Rattle.rr_flat.specs.View.{plain_flat}
use Rattle.rr_order.specs.Nodes.{Foreign, widths}
use Rattle.rr_order.proofs.Covering.{words_added_none, words_added, words_added_all}
use Rattle.rr_order.proofs.nodes.add_words.Goals as goal

pub loop-word-init : goal.loop-word-init
loop-word-init c = words_added_none (widths (plain_flat c.args.flat.now)) c.args.nodes.now.items c.args.reach.now (Foreign (widths (plain_flat c.args.flat.now)) c.args.own.now.items c.args.stamp)

pub loop-word-preserved : goal.loop-word-preserved
loop-word-preserved c =
    words_added (widths (plain_flat c.args.flat.now)) c.args.nodes.now.items c.loop-word.nodes.items c.add_places.new.nodes.items c.args.reach.now c.loop-word.word _ c.range.result.0 c.range.result.1
    (Foreign (widths (plain_flat c.args.flat.now)) c.args.own.now.items c.args.stamp) c.in_ok-piece.ensures c.range.ensures.covered c.loop-word.invariant c.in_ok-add_places.ensures

pub returns : goal.returns
returns c =
    words_added_all (widths (plain_flat c.args.flat.now)) c.args.nodes.now.items c.loop-word.nodes.items c.args.reach.now c.loop-word.word (Foreign (widths (plain_flat c.args.flat.now)) c.args.own.now.items c.args.stamp)
    (omega (arith, c.loop-word-test.false, c.loop-word.auto.word-end)) c.loop-word.invariant
