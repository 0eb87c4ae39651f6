use Rattle.std.proofs.Common.{refl, arith}
use Rattle.rr_search_tests.proofs.Tasks.{two_task}
use Rattle.rr_search_tests.proofs.searches.searched_two.Goals as goal

pub least-requires-clause-task : goal.least-requires-clause-task
least-requires-clause-task g c κs within = two_task _ c.requires.list refl c.in_ok-switches.ensures.items c.requires.some c.requires.most (omega (arith))
