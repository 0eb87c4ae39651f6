use Rattle.rr_count.proofs.Counters.{always}
use Rattle.rr_count.proofs.at_most.Goals as goal

pub returns-then-bound-wires-clause-value : goal.returns-then-bound-wires-clause-value
returns-then-bound-wires-clause-value c = always _ _ _ _ _ c.if-bound-wires.true c.constant.ensures.value
