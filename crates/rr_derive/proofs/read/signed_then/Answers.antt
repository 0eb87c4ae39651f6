use Rattle.rr_derive.proofs.LratLines.{end_signed}
use Rattle.rr_derive.proofs.read.signed_then.Goals as goal

pub returns-in_err-var-in-Some-clause-none : goal.returns-in_err-var-in-Some-clause-none
returns-in_err-var-in-Some-clause-none c =
    rw c.from_residual.ensures (end_signed c.args.text.now c.in-Some.digits.now c.in-Some.ensures c.in_err-var-in-Some.ensures.none)
