use Rattle.rr_top.proofs.RightRuns.{right_run}
use Rattle.rr_top.proofs.run.Goals as goal

pub returns : goal.returns
returns g c = right_run c.conduct.ensures
