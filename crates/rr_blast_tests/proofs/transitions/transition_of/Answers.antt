use Rattle.std.proofs.Common.{◌≡◌, ◌∙◌}
use Rattle.rr_blast_tests.proofs.Fitting.{fits, no_list, none_listed}
use Rattle.rr_blast_tests.proofs.transitions.transition_of.Goals as goal

pub small-requires-clause-fits : goal.small-requires-clause-fits
small-requires-clause-fits c =
    fits _ _ _ _ _ _ _ _ _ _ c.in-Ok.ensures.tree c.in-Ok.ensures.ordered.0 c.in-Ok.ensures.ordered.1 (c.new-list.ensures ∙ none_listed c.new.result.items c.new.ensures.items)
