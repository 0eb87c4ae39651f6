use Rattle.rr_trace.proofs.Fields.{Blanks}
use Rattle.rr_trace.proofs.header.without_start.Given as goal

abbrev pub invariant-loop-at : goal.invariant-loop-at
invariant-loop-at l = Blanks l.field l.at
