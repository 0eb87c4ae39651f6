use Rattle.std.proofs.Common.{arith, inl, inr}
use Rattle.rr_derive.proofs.LratLines.{numberless_zero}
use Rattle.rr_derive.proofs.read.positive_then.Goals as goal

pub returns-then-number-eq0-clause-none : goal.returns-then-number-eq0-clause-none
returns-then-number-eq0-clause-none c =
    numberless_zero c.args.text.now c.in_ok-number.rest.now c.in_ok-number.number c.in_ok-number.ensures.fits c.in_ok-number.ensures.some
    (λ h. elim c.then-number-eq0.either [ inl z ↦ omega (arith, z, h.0) | inr b ↦ omega (arith, b, h.1) ])
