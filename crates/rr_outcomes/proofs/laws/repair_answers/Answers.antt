use Rattle.rr_outcomes.proofs.Told.{ample_settles, each_answer, matching_stays, printed_is_mendable, prints_found}
use Rattle.rr_outcomes.proofs.laws.repair_answers.Goals as goal

pub returns-clause-each : goal.returns-clause-each
returns-clause-each c = each_answer

pub returns-clause-found : goal.returns-clause-found
returns-clause-found c = prints_found

pub returns-clause-printed : goal.returns-clause-printed
returns-clause-printed c = printed_is_mendable

pub returns-clause-settles : goal.returns-clause-settles
returns-clause-settles c = ample_settles

pub returns-clause-stays : goal.returns-clause-stays
returns-clause-stays c = matching_stays
