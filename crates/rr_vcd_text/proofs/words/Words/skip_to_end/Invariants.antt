use Rattle.std.proofs.Common.{length}
use Rattle.rr_vcd_text.proofs.Passing.{Passed}
use Rattle.rr_vcd_text.proofs.words.Words.skip_to_end.Given as goal

abbrev pub invariant-loop-word : goal.invariant-loop-word
invariant-loop-word l = Passed l.initial.self l.self

abbrev pub decreases-loop-word : goal.decreases-loop-word
decreases-loop-word l = length l.self.rest.now
