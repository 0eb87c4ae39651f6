use Rattle.rr_syntax.specs.Items.{WellFormedSource, FitLiteralsSource}
use Rattle.rr_syntax.specs.View.{plain_source}
use Rattle.rr_flatten.proofs.source.walked_from_top.Goals as goal

pub walk_from-requires-clause-ready : goal.walk_from-requires-clause-ready
unfolding WellFormedSource FitLiteralsSource plain_source
walk_from-requires-clause-ready c = record { places = c.in_ok-table.ensures.places; formed = c.requires.formed; fit = c.requires.fit }
