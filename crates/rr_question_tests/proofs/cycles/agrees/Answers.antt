use Rattle.rr_blast.proofs.FitLaws.{design_fits}
use Rattle.rr_question_tests.proofs.cycles.agrees.Goals as goal

pub transition_of-requires-clause-fits : goal.transition_of-requires-clause-fits
transition_of-requires-clause-fits c =
    design_fits _ _ _ _ _ _ _ _ c.in-Ok.ensures.tree.flat c.in-Ok.ensures.ordered.0 c.in-Ok.ensures.ordered.1 (c.in_ok-list.ensures.right _ c.in-Ok.ensures.ordered)
