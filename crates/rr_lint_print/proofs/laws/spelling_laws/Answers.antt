use Rattle.rr_lint_print.proofs.Mends.{spells_mended}
use Rattle.rr_lint_print.proofs.laws.spelling_laws.Goals as goal

pub returns : goal.returns
returns c = spells_mended
