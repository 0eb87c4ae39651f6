use Rattle.std.proofs.Common.{arith}
use Rattle.rr_latch.proofs.Noting.{words_start, words_next, words_done}
use Rattle.rr_latch.proofs.early.note_reach.Goals as goal

pub loop-word-init : goal.loop-word-init
loop-word-init c = words_start c.args.table.now c.args.reach.now c.args.early.now

pub loop-word-preserved : goal.loop-word-preserved
loop-word-preserved c = words_next c.args.table.now c.args.reach.now c.loop-word.word _ c.args.early.now c.loop-word.early c.note_word.new.early c.in_ok-piece.ensures c.loop-word.invariant c.in_ok-note_word.ensures

pub returns : goal.returns
returns c = words_done c.args.table.now c.args.reach.now c.loop-word.word c.args.early.now c.loop-word.early (omega (arith, c.loop-word-test.false, c.loop-word.auto.word-end)) c.loop-word.invariant
