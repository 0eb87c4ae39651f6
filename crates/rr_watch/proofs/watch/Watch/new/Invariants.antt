use Rattle.rr_watch.proofs.NumberLaws.{Loaded}
use Rattle.rr_watch.proofs.watch.Watch.new.Given as goal

abbrev pub invariant-loop-index : goal.invariant-loop-index
invariant-loop-index l = Loaded l.formula l.propagator l.index
