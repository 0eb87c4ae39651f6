use Rattle.rr_run.proofs.Once.{lawful_or_refusal, one_lawful, one_refused, one_run, run_or_refusal}
use Rattle.rr_run.proofs.laws.one_outcome.Goals as goal

pub returns-clause-one_design : goal.returns-clause-one_design
returns-clause-one_design c = one_lawful

pub returns-clause-design_or_refusal : goal.returns-clause-design_or_refusal
returns-clause-design_or_refusal c = lawful_or_refusal

pub returns-clause-one_run : goal.returns-clause-one_run
returns-clause-one_run c = one_run

pub returns-clause-run_or_refusal : goal.returns-clause-run_or_refusal
returns-clause-run_or_refusal c = run_or_refusal

pub returns-clause-one_refusal : goal.returns-clause-one_refusal
returns-clause-one_refusal c = one_refused
