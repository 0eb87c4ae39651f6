use Rattle.std.proofs.Common.{length}
use Rattle.rr_derive.proofs.LratLines.{Hints}
use Rattle.rr_derive.proofs.read.hints_then.Given as goal

abbrev pub invariant-loop-var : goal.invariant-loop-var
invariant-loop-var l = Hints l.text l.hints.items l.negative l.rest

abbrev pub decreases-loop-var : goal.decreases-loop-var
decreases-loop-var l = length l.rest
