use Rattle.rr_make.proofs.Once.{each_make, one_summary, summary_or_none}
use Rattle.rr_make.proofs.laws.summary_laws.Goals as goal

pub returns-clause-one : goal.returns-clause-one
returns-clause-one c = one_summary

pub returns-clause-none : goal.returns-clause-none
returns-clause-none c = summary_or_none

pub returns-clause-each : goal.returns-clause-each
returns-clause-each c = each_make
