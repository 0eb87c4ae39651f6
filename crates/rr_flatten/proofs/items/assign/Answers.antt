use Rattle.rr_syntax.specs.Items.{WellFormedPair, FitLiteralsPair}
use Rattle.rr_syntax.specs.View.{plain_pair}
use Rattle.rr_flatten.proofs.Clears.{two_clear}
use Rattle.rr_flatten.proofs.items.assign.Goals as goal

pub drive-requires-clause-target : goal.drive-requires-clause-target
unfolding WellFormedPair FitLiteralsPair plain_pair
drive-requires-clause-target c =
    (c.requires.there, (two_clear _ _ _ _ _ _ _ c.names_of-names.ensures.value c.requires.formed.1 c.requires.fit.0 c.requires.formed.2 c.requires.fit.1 c.note_expression-found.ensures c.note_expression-found-2.ensures c.in_default.is).0)

pub drive-requires-clause-value : goal.drive-requires-clause-value
unfolding WellFormedPair FitLiteralsPair plain_pair
drive-requires-clause-value c =
    (c.requires.there, (two_clear _ _ _ _ _ _ _ c.names_of-names.ensures.value c.requires.formed.1 c.requires.fit.0 c.requires.formed.2 c.requires.fit.1 c.note_expression-found.ensures c.note_expression-found-2.ensures c.in_default.is).1)
