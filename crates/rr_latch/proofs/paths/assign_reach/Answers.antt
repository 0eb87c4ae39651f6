use Rattle.std.proofs.Common.{arith}
use Rattle.rr_latch.specs.Paths.{assigned}
use Rattle.rr_writers.proofs.Reaching.{no_words}
use Rattle.rr_latch.proofs.Scanning.{assigning_none, words_next, words_done}
use Rattle.rr_latch.proofs.paths.assign_reach.Goals as goal

pub loop-word-init : goal.loop-word-init
loop-word-init c = assigning_none _ _ _ (no_words c.args.reach.now)

pub loop-word-preserved : goal.loop-word-preserved
loop-word-preserved c =
    words_next c.args.reach.now c.loop-word.word _ (assigned c.args.path.now.unassigned) (assigned c.loop-word.path.unassigned) (assigned c.assign_piece.new.path.unassigned)
    c.args.path.now.log.items c.loop-word.path.log.items c.assign_piece.new.path.log.items c.in_ok-piece.ensures c.loop-word.invariant c.in_ok-assign_piece.ensures.set c.in_ok-assign_piece.ensures.log

pub returns-clause-set : goal.returns-clause-set
returns-clause-set c =
    (words_done c.args.reach.now c.loop-word.word (assigned c.args.path.now.unassigned) (assigned c.loop-word.path.unassigned) c.args.path.now.log.items c.loop-word.path.log.items
    (omega (arith, c.loop-word-test.false, c.loop-word.auto.word-end)) c.loop-word.invariant).set

pub returns-clause-log : goal.returns-clause-log
returns-clause-log c = c.loop-word.invariant.log
