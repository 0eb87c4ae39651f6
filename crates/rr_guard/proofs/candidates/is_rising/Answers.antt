use Rattle.rr_guard.proofs.Rising.{one_back, end_rises}
use Rattle.rr_guard.proofs.candidates.is_rising.Goals as goal

pub loop-name-preserved : goal.loop-name-preserved
loop-name-preserved c = λ h. c.loop-name.invariant (one_back c.loop-name.last c.args.names.now c.loop-name.name-index _ c.loop-name-test.true c.if-token-last.false h)

pub returns : goal.returns
returns c = λ e. c.loop-name.invariant (end_rises c.loop-name.last c.args.names.now c.loop-name.name-index c.loop-name-test.false)
