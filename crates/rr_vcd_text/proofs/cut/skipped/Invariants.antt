use Rattle.rr_vcd_text.proofs.Cutting.{Skips}
use Rattle.rr_vcd_text.proofs.cut.skipped.Given as goal

abbrev pub invariant-loop-at : goal.invariant-loop-at
invariant-loop-at l = Skips l.text l.at l.above l.lines
