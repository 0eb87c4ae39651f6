use Rattle.std.proofs.Common.{take}
use Rattle.rr_derive.proofs.MarkLaws.{Supposed}
use Rattle.rr_derive.proofs.check.suppose.Given as goal

abbrev pub invariant-loop-lit : goal.invariant-loop-lit
invariant-loop-lit l = Supposed l.marks l.stamp (take l.lit-index l.clause)
