use Rattle.std.proofs.Common.{length}
use Rattle.rr_derive.proofs.LratLines.{Literals}
use Rattle.rr_derive.proofs.read.literals_then.Given as goal

abbrev pub invariant-loop-var : goal.invariant-loop-var
invariant-loop-var l = Literals l.text l.lits.items l.rest

abbrev pub decreases-loop-var : goal.decreases-loop-var
decreases-loop-var l = length l.rest
