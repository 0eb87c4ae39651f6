use Rattle.rr_run.proofs.OwnFiles.{own_refusal, own_run, plain_run}
use Rattle.rr_run.proofs.laws.files_run_as_texts.Goals as goal

pub returns-clause-run : goal.returns-clause-run
returns-clause-run c = own_run

pub returns-clause-refusal : goal.returns-clause-refusal
returns-clause-refusal c = own_refusal

pub returns-clause-plain : goal.returns-clause-plain
returns-clause-plain c = plain_run
