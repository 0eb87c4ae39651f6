use Rattle.std.proofs.Common.{◌∙◌, rules, arith}
use Rattle.rr_trace.proofs.Numerals.{fits, too_large, above}
use Rattle.rr_trace.proofs.cell.Numeral.fit.Goals as goal

pub returns-in-Some : goal.returns-in-Some
returns-in-Some c n h =
    let e = rw c.in-Some.is at h.value in
    rw (c.ones-in-Some.ensures, c.ones-in-Some-2.ensures) (fits c.args.width c.in-Some.value c.args.self.unknown n c.requires.high e h.unknown (search (rules, c.if-value-ones.true, c.ones.ensures)))

pub returns-in_default-2 : goal.returns-in_default-2
returns-in_default-2 c n h = too_large c.args.width n (above c.args.width n.0 c.requires.high (rw c.in_default.is at h.value))
