use Rattle.rr_token_numbers.proofs.Turns.{counts_by_form, unfolds_by_form}
use Rattle.rr_token_numbers.proofs.laws.unfolding_sees_no_numbers.Goals as goal

pub returns-clause-made : goal.returns-clause-made
returns-clause-made c = unfolds_by_form

pub returns-clause-counted : goal.returns-clause-counted
returns-clause-counted c = counts_by_form
