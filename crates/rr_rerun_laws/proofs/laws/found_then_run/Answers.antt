use Rattle.rr_rerun_laws.proofs.Reruns.{found_file_run_agrees, found_file_runs_again, found_run_agrees, found_runs_again}
use Rattle.rr_rerun_laws.proofs.laws.found_then_run.Goals as goal

pub returns-clause-again : goal.returns-clause-again
returns-clause-again c = found_runs_again

pub returns-clause-agrees : goal.returns-clause-agrees
returns-clause-agrees c = found_run_agrees

pub returns-clause-file_again : goal.returns-clause-file_again
returns-clause-file_again c = found_file_runs_again

pub returns-clause-file_agrees : goal.returns-clause-file_agrees
returns-clause-file_agrees c = found_file_run_agrees
