use Rattle.std.proofs.Common.{rules}
use Rattle.rr_vcd_text.proofs.Cutting.{Words-more}
use Rattle.rr_vcd_text.proofs.cut.word_length.Goals as goal

pub loop-at-preserved : goal.loop-at-preserved
loop-at-preserved c = Words-more _ _ c.loop-at.invariant c.loop-at-test.true (search (rules, c.is_white.ensures, c.if-is_white.false))
