use Rattle.std.proofs.Common.{length}
use Rattle.rr_derive.proofs.LratLines.{Numbers}
use Rattle.rr_derive.proofs.read.numbers_end.Given as goal

abbrev pub invariant-loop-after : goal.invariant-loop-after
invariant-loop-after l = Numbers l.text l.rest

abbrev pub decreases-loop-after : goal.decreases-loop-after
decreases-loop-after l = length l.rest
