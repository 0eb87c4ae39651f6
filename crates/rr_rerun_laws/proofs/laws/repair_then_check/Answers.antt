use Rattle.rr_rerun_laws.proofs.Checking.{despaired_accepted, mended_accepted}
use Rattle.rr_rerun_laws.proofs.laws.repair_then_check.Goals as goal

pub returns-clause-mended : goal.returns-clause-mended
returns-clause-mended c = mended_accepted

pub returns-clause-none : goal.returns-clause-none
returns-clause-none c = despaired_accepted
