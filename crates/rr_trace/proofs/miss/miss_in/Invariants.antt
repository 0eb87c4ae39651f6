use Rattle.rr_trace.specs.Misses.{Agree}
use Rattle.rr_trace.proofs.miss.miss_in.Given as goal

abbrev pub invariant-loop-output : goal.invariant-loop-output
invariant-loop-output l = Agree l.cells l.values l.output
