use Rattle.std.proofs.Common.{arith}
use Rattle.rr_writers.specs.Tables.{entry}
use Rattle.rr_latch.proofs.Putting.{words_none, words_next, words_done}
use Rattle.rr_latch.proofs.kept.put_reach.Goals as goal

pub loop-word-init : goal.loop-word-init
loop-word-init c = words_none c.args.number c.args.reach.now (entry c.args.table.now)

pub loop-word-preserved : goal.loop-word-preserved
loop-word-preserved c =
    words_next c.args.number c.args.reach.now c.loop-word.word _ (entry c.args.table.now) (entry c.loop-word.table) (entry c.put_piece.new.table) c.in_ok-piece.ensures c.loop-word.invariant c.in_ok-put_piece.ensures

pub returns : goal.returns
returns c = words_done c.args.number c.args.reach.now c.loop-word.word (entry c.args.table.now) (entry c.loop-word.table) (omega (arith, c.loop-word-test.false, c.loop-word.auto.word-end)) c.loop-word.invariant
