use Rattle.rr_lint_file.proofs.read.checked.Goals as goal

pub returns-clause-answer : goal.returns-clause-answer
returns-clause-answer c = λ file text top size taken design. c.wrong_text.ensures file text top _ size taken design c.in-Err.ensures.err c.in-Err.ensures.denied
