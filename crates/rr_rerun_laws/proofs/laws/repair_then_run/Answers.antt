use Rattle.rr_rerun_laws.proofs.Reruns.{file_run_agrees, file_runs_again, run_agrees, runs_again}
use Rattle.rr_rerun_laws.proofs.laws.repair_then_run.Goals as goal

pub returns-clause-again : goal.returns-clause-again
returns-clause-again c = runs_again

pub returns-clause-agrees : goal.returns-clause-agrees
returns-clause-agrees c = run_agrees

pub returns-clause-file_again : goal.returns-clause-file_again
returns-clause-file_again c = file_runs_again

pub returns-clause-file_agrees : goal.returns-clause-file_agrees
returns-clause-file_agrees c = file_run_agrees
