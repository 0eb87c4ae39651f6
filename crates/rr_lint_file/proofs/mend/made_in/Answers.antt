use Rattle.rr_lint_file.proofs.mend.made_in.Goals as goal

pub lift-requires-clause-expansion : goal.lift-requires-clause-expansion
lift-requires-clause-expansion c = c.requires.expansion.expansion
