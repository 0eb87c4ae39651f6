use Rattle.rr_sites_command.proofs.Once.{one_file, one_list, one_text, text_or_refusal, one_refusal}
use Rattle.rr_sites_command.proofs.laws.one_outcome.Goals as goal

pub returns-clause-one_list : goal.returns-clause-one_list
returns-clause-one_list c = one_list

pub returns-clause-one_file : goal.returns-clause-one_file
returns-clause-one_file c = one_file

pub returns-clause-one_text : goal.returns-clause-one_text
returns-clause-one_text c = one_text

pub returns-clause-text_or_refusal : goal.returns-clause-text_or_refusal
returns-clause-text_or_refusal c = text_or_refusal

pub returns-clause-one_refusal : goal.returns-clause-one_refusal
returns-clause-one_refusal c = one_refusal
