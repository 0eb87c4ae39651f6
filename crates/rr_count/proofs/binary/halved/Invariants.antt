use Rattle.rr_count.proofs.Adders.{Added}
use Rattle.rr_count.proofs.binary.halved.Given as goal

abbrev pub invariant-loop-i : goal.invariant-loop-i
invariant-loop-i l = Added l.initial.b l.b l.initial.queue.items l.queue.items l.carries.items l.i
