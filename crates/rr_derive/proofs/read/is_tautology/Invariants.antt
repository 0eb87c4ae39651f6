use Rattle.std.proofs.Common.{take}
use Rattle.rr_derive.proofs.Signs.{Coded}
use Rattle.rr_derive.proofs.read.is_tautology.Given as goal

abbrev pub invariant-loop-lit : goal.invariant-loop-lit
invariant-loop-lit l = Coded l.codes (take l.lit-index l.clause)
