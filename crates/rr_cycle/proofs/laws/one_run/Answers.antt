use Rattle.rr_cycle.proofs.Settled.{run_exists, run_only}
use Rattle.rr_cycle.proofs.laws.one_run.Goals as goal

pub returns-clause-exists : goal.returns-clause-exists
returns-clause-exists c = run_exists

pub returns-clause-only : goal.returns-clause-only
returns-clause-only c = run_only
