use Rattle.std.proofs.Common.{refl}
use Rattle.rr_latch.proofs.Logs.{logged_none}
use Rattle.rr_latch.proofs.branches.assign_common.Goals as goal

pub returns-else-default-clause-log : goal.returns-else-default-clause-log
returns-else-default-clause-log c = logged_none _ _ _ (λ b. refl)
