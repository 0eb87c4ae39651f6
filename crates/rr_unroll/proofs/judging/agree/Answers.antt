use Rattle.rr_unroll.specs.Questions.{agree}
use Rattle.rr_unroll.proofs.JudgedLaws.{all_true, agree_misses, agree_more, agree_all}
use Rattle.rr_unroll.proofs.judging.agree.Goals as goal

pub returns-then-misses : goal.returns-then-misses
returns-then-misses c =
    agree_misses c.args.known.now c.args.expected.now c.args.found.now c.loop-i.i c.misses.result (all_true (agree c.args.known.now c.args.expected.now c.args.found.now)) c.loop-i-test.true c.misses.ensures c.if-misses.true c.loop-i.invariant

pub loop-i-preserved : goal.loop-i-preserved
loop-i-preserved c =
    agree_more c.args.known.now c.args.expected.now c.args.found.now c.loop-i.i c.misses.result (all_true (agree c.args.known.now c.args.expected.now c.args.found.now)) c.loop-i-test.true c.misses.ensures c.if-misses.false c.loop-i.invariant

pub returns : goal.returns
returns c =
    agree_all c.args.known.now c.args.expected.now c.args.found.now c.loop-i.i (all_true (agree c.args.known.now c.args.expected.now c.args.found.now)) c.loop-i-test.false c.loop-i.invariant
