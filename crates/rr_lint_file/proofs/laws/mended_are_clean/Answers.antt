use Rattle.rr_lint_file.proofs.Mending.{mended_are_clean as is_clean}
use Rattle.rr_lint_file.proofs.laws.mended_are_clean.Goals as goal

pub returns : goal.returns
returns c = is_clean
