use Rattle.std.proofs.Common.{refl}
use Rattle.rr_search_tests.proofs.Tasks.{three_task}
use Rattle.rr_search_tests.proofs.searches.searched_three.Goals as goal

pub least-requires-clause-task : goal.least-requires-clause-task
least-requires-clause-task g c κs within = three_task _ c.requires.list refl c.in_ok-switches.ensures.items c.requires.some c.requires.most c.requires.budget
