use Rattle.std.proofs.Common.{take}
use Rattle.rr_derive.specs.Marks.{OpenIn}
use Rattle.rr_derive.proofs.check.look.Given as goal

abbrev pub invariant-loop-lit : goal.invariant-loop-lit
invariant-loop-lit l = OpenIn l.marks l.stamp (take l.lit-index l.clause) l.candidate
