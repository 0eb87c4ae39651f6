use Rattle.std.proofs.Common.{◌-◌, length}
use Rattle.rr_outside_words.proofs.Outsides.{NoneBefore}
use Rattle.rr_outside_words.proofs.outside.first_outside.Given as goal

abbrev pub invariant-loop-at : goal.invariant-loop-at
invariant-loop-at l = NoneBefore l.tokens l.at

abbrev pub decreases-loop-at : goal.decreases-loop-at
decreases-loop-at l = length l.tokens - l.at
