use Rattle.std.proofs.Common.{sym, ◌∙◌}
use Rattle.rr_bits.proofs.Operators.{sar_ones}
use Rattle.rr_bits.proofs.Bits.sar.Goals as goal

pub returns-then-top : goal.returns-then-top
returns-then-top c = rw (c.inverted-then-top.ensures, c.shr.ensures, c.inverted.ensures) (sar_ones _ _ (sym c.top.ensures ∙ c.if-top.true))
