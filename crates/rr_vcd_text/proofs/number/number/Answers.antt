use Rattle.std.proofs.Common.{rules, arith, sym}
use Rattle.std.proofs.lemmas.Bool.Decides.{nat_tests}
use Rattle.rr_vcd_text.proofs.Numerals.{Digits-more, Digits-whole, Digits-large}
use Rattle.rr_vcd_text.proofs.number.number.Goals as goal

pub loop-byte-preserved : goal.loop-byte-preserved
loop-byte-preserved c =
    let read = c.in_ok-value.ensures in
    Digits-more _ _ _ _ c.loop-byte.invariant c.loop-byte-test.true (search (rules, c.is_digit.ensures, c.if-not-is_digit.false)) read.0 (sym read.1)

pub returns-in_err-value : goal.returns-in_err-value
returns-in_err-value c =
    rw c.from_residual.ensures (Digits-large _ _ _ c.loop-byte.invariant c.loop-byte-test.true (omega (arith, c.in_err-value.ensures)))

pub returns : goal.returns
returns c = Digits-whole _ _ _ c.loop-byte.invariant (omega arith) (grind (arith, nat_tests))
