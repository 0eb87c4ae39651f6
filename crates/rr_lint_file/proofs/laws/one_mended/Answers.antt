use Rattle.rr_lint_file.proofs.Once as once
use Rattle.rr_lint_file.proofs.laws.one_mended.Goals as goal

pub returns-clause-one_text : goal.returns-clause-one_text
returns-clause-one_text c = once.one_text

pub returns-clause-text_or_refusal : goal.returns-clause-text_or_refusal
returns-clause-text_or_refusal c = once.text_or_refusal

pub returns-clause-one_refusal : goal.returns-clause-one_refusal
returns-clause-one_refusal c = once.one_refusal
