use Rattle.std.proofs.Common.{length}
use Rattle.std.specs.Prelude.{All}
use Rattle.rr_cnf.specs.Clauses.{IsWithin}
use Rattle.rr_analysis.proofs.chains.Chains.follows.Given as goal

abbrev pub invariant-loop-step : goal.invariant-loop-step
invariant-loop-step l = All (IsWithin l.watch.vars) l.self.stack.items

abbrev pub decreases-loop-failed : goal.decreases-loop-failed
decreases-loop-failed l = length l.self.stack.items
