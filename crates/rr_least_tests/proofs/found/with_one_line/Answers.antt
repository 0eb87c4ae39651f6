use Rattle.rr_blast.proofs.FitLaws.{design_fits}
use Rattle.rr_least_tests.proofs.found.with_one_line.Goals as goal

pub searched-requires-clause-fits : goal.searched-requires-clause-fits
searched-requires-clause-fits g c κs within =
    design_fits _ _ _ _ _ _ _ _ c.in-Ok.ensures.tree.flat c.in-Ok.ensures.ordered.0 c.in-Ok.ensures.ordered.1 (c.in_ok-list.ensures.right _ c.in-Ok.ensures.ordered)
