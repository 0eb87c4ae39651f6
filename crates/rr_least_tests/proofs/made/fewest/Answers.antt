use Rattle.std.proofs.Common.{arith}
use Rattle.rr_search.proofs.Tasks.{task_stands}
use Rattle.rr_least_tests.proofs.made.fewest.Goals as goal

pub least-requires-clause-task : goal.least-requires-clause-task
least-requires-clause-task g c κs within =
    task_stands _ c.requires.fits.0 ((rw c.in-Some.is at c.in_ok-cycle.ensures) c.requires.fits.0 c.requires.fits.1) (omega arith) (omega arith) (omega arith)
