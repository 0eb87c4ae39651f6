use Rattle.std.proofs.Common.{sym, ap, arith, length}
use Rattle.std.proofs.lemmas.Fmt.{decimal_digit}
use Rattle.rr_decimal.proofs.Lengths.{length_decimal}
use Rattle.rr_decimal.proofs.digits.Goals as goal

pub returns-in_default : goal.returns-in_default
returns-in_default c = sym (ap length (decimal_digit c.args.number (omega (arith, c.in_default.ensures.none))))

pub returns : goal.returns
returns c = sym (length_decimal c.in-Some.log c.args.number c.in-Some.ensures.power_le c.in-Some.ensures.next_power_gt c.ranges.number.fits)
