use Rattle.rr_run.proofs.FileOnce.{file_design_or_refusal, file_run_or_refusal, one_file_design, one_file_refused, one_file_run}
use Rattle.rr_run.proofs.laws.one_file_outcome.Goals as goal

pub returns-clause-one_design : goal.returns-clause-one_design
returns-clause-one_design c = one_file_design

pub returns-clause-design_or_refusal : goal.returns-clause-design_or_refusal
returns-clause-design_or_refusal c = file_design_or_refusal

pub returns-clause-one_run : goal.returns-clause-one_run
returns-clause-one_run c = λ kind file table top word. one_file_run file top word kind table

pub returns-clause-run_or_refusal : goal.returns-clause-run_or_refusal
returns-clause-run_or_refusal c = λ kind file table top word. file_run_or_refusal file top word kind table

pub returns-clause-one_refusal : goal.returns-clause-one_refusal
returns-clause-one_refusal c = λ kind file table top word. one_file_refused file top word kind table
