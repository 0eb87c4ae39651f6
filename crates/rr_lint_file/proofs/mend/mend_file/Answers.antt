use Rattle.std.proofs.Common.{inr}
use Rattle.rr_run.specs.Refusals.{StopsWhere}
use Rattle.rr_lint_file.specs.Clean.{IsCleaned}
use Rattle.rr_lint_file.specs.Files.{IsMendedFile, RefusesEdits, RefusesMend}
use Rattle.rr_lint_file.proofs.Kept.{ok_on, on_result}
use Rattle.rr_lint_file.proofs.Mending.{mended_are_clean}
use Rattle.rr_lint_file.proofs.mend.mend_file.Goals as goal

pub returns-clause-answer : goal.returns-clause-answer
returns-clause-answer c =
    on_result (IsMendedFile c.args.bytes.now _) (IsMendedFile c.args.bytes.now _) (RefusesEdits c.args.bytes.now _) (RefusesMend c.args.bytes.now _) (λ v. v.items) c.mend_text.result (λ out m. m) (λ refusal h. inr (inr (inr h)))
    (c.mend_text.ensures _ c.in-Ok.ensures.design c.in-Ok.ensures.targets c.in-Ok.ensures.labels)

pub returns-clause-clean : goal.returns-clause-clean
returns-clause-clean c =
    ok_on (IsMendedFile c.args.bytes.now _) (IsCleaned c.args.bytes.now _) (StopsWhere (RefusesEdits c.args.bytes.now _)) (λ v. v.items) c.mend_text.result (mended_are_clean c.args.bytes.now _)
    (c.mend_text.ensures _ c.in-Ok.ensures.design c.in-Ok.ensures.targets c.in-Ok.ensures.labels)
