use Rattle.rr_flatten.proofs.Grown.{table_if}
use Rattle.rr_flatten.proofs.source.top_place.Goals as goal

pub returns-in-Some-clause-within : goal.returns-in-Some-clause-within
returns-in-Some-clause-within c = table_if _ _ _ _ c.requires.places c.place_of.ensures
