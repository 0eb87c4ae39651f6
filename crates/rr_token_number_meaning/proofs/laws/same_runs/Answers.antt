use Rattle.rr_token_number_meaning.proofs.Runs.{same_run}
use Rattle.rr_token_number_meaning.proofs.laws.same_runs.Goals as goal

pub returns : goal.returns
returns c = same_run
