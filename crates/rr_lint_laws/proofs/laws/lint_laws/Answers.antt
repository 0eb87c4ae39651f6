-- What holds of mended sources.
use Rattle.rr_lint_laws.proofs.Cleans.{lint_cleans}
use Rattle.rr_lint_laws.proofs.One.{one_lint}
use Rattle.rr_lint_laws.proofs.Stays.{clean_stays}
use Rattle.rr_lint_laws.proofs.laws.lint_laws.Goals as goal

pub returns-clause-cleans : goal.returns-clause-cleans
returns-clause-cleans c = lint_cleans

pub returns-clause-stays : goal.returns-clause-stays
returns-clause-stays c = clean_stays

pub returns-clause-one : goal.returns-clause-one
returns-clause-one c = one_lint
