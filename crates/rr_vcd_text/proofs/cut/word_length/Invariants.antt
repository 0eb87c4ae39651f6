use Rattle.rr_vcd_text.proofs.Cutting.{Words}
use Rattle.rr_vcd_text.proofs.cut.word_length.Given as goal

abbrev pub invariant-loop-at : goal.invariant-loop-at
invariant-loop-at l = Words l.text l.at
