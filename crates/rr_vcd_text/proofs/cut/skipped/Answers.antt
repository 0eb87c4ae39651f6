use Rattle.std.proofs.Common.{rules}
use Rattle.rr_vcd_text.proofs.Cutting.{Skips-line, Skips-more}
use Rattle.rr_vcd_text.proofs.cut.skipped.Goals as goal
use Rattle.rr_vcd_text.proofs.cut.skipped.Goals.{then-byte-eq10, else-byte-eq10}

pub loop-at-preserved : goal.loop-at-preserved
loop-at-preserved c =
    elim c.if-byte-eq10.branch [
      | then-byte-eq10 w ↦ rw w.lines-is (Skips-line _ _ _ _ c.loop-at.invariant c.loop-at-test.true (search (rules, c.is_white.ensures, c.if-not-is_white.false)) (search rules))
      | else-byte-eq10 w ↦ rw w.lines-is (Skips-more _ _ _ _ c.loop-at.invariant c.loop-at-test.true (search (rules, c.is_white.ensures, c.if-not-is_white.false)) (search rules))
    ]
