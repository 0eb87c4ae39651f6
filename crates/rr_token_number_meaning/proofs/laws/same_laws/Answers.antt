use Rattle.rr_token_number_meaning.proofs.Lawfulness as lawfulness
use Rattle.rr_token_number_meaning.proofs.laws.same_laws.Goals as goal

pub returns : goal.returns
returns c = record { lawful = lawfulness.same_laws; ordered = lawfulness.same_order }
