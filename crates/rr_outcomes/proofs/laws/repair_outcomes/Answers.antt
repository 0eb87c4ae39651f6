use Rattle.rr_outcomes.proofs.Once.{one_taking, one_refusal, taken_or_refused, mendable_or_not, matching_mends}
use Rattle.rr_outcomes.proofs.laws.repair_outcomes.Goals as goal

pub returns-clause-taking : goal.returns-clause-taking
returns-clause-taking c = one_taking

pub returns-clause-refusal : goal.returns-clause-refusal
returns-clause-refusal c = one_refusal

pub returns-clause-either : goal.returns-clause-either
returns-clause-either c = taken_or_refused

pub returns-clause-mendable : goal.returns-clause-mendable
returns-clause-mendable c = mendable_or_not

pub returns-clause-matching : goal.returns-clause-matching
returns-clause-matching c = matching_mends
