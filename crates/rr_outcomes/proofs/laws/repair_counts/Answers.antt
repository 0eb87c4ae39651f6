use Rattle.rr_outcomes.proofs.Alike.{counts_agree, one_count, one_verdict}
use Rattle.rr_outcomes.proofs.laws.repair_counts.Goals as goal

pub returns-clause-count : goal.returns-clause-count
returns-clause-count c = one_count

pub returns-clause-verdict : goal.returns-clause-verdict
returns-clause-verdict c = one_verdict

pub returns-clause-answers : goal.returns-clause-answers
returns-clause-answers c = counts_agree
