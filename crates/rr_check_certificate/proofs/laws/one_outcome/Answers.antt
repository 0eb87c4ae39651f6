use Rattle.rr_check_certificate.proofs.Certified.{same_verdict, verdict_or_flaw, same_flaw, never_true}
use Rattle.rr_check_certificate.proofs.laws.one_outcome.Goals as goal

pub returns-clause-one_verdict : goal.returns-clause-one_verdict
returns-clause-one_verdict c = λ circuit proof v w p q. same_verdict circuit proof v w p q

pub returns-clause-verdict_or_flaw : goal.returns-clause-verdict_or_flaw
returns-clause-verdict_or_flaw c = λ circuit proof v f n p q. verdict_or_flaw circuit proof v f n p q

pub returns-clause-one_flaw : goal.returns-clause-one_flaw
returns-clause-one_flaw c = λ circuit proof f g n m p q. let same = same_flaw circuit proof f g n m p q in (same.flaw, same.line)

pub returns-clause-accepted : goal.returns-clause-accepted
returns-clause-accepted c = λ circuit proof j. never_true circuit proof j
