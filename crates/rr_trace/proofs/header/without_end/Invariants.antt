use Rattle.rr_trace.proofs.Fields.{Trims}
use Rattle.rr_trace.proofs.header.without_end.Given as goal

abbrev pub invariant-loop-end : goal.invariant-loop-end
invariant-loop-end l = Trims l.field l.end

abbrev pub decreases-loop-end : goal.decreases-loop-end
decreases-loop-end l = l.end
