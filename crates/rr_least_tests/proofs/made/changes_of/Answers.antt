use Rattle.rr_blast.proofs.FitLaws.{design_fits}
use Rattle.rr_least_tests.proofs.made.changes_of.Goals as goal

pub fewest-requires-clause-fits : goal.fewest-requires-clause-fits
fewest-requires-clause-fits g c κs within =
    design_fits _ _ _ _ _ _ _ _ c.in-Ok.ensures.tree.flat c.in-Ok.ensures.ordered.0 c.in-Ok.ensures.ordered.1 (c.in_ok-list.ensures.right _ c.in-Ok.ensures.ordered)
