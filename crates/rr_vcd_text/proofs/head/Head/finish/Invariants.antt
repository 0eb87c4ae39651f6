use Rattle.std.proofs.Common.{ℕ, List, length}
use Rattle.rr_vcd_text.specs.View.{IsHeading}
use Rattle.rr_vcd_text.proofs.head.Head.finish.Given as goal

abbrev pub invariant-loop-word : goal.invariant-loop-word
invariant-loop-word l = (bytes : List ℕ) → IsHeading bytes l.initial.self → IsHeading bytes l.self

abbrev pub decreases-loop-word : goal.decreases-loop-word
decreases-loop-word l = length l.self.words.rest.now
