use Rattle.std.proofs.Common.{refl, inl, inr}
use Rattle.rr_run.proofs.FileRuns.{stops_on}
use Rattle.rr_run.specs.Files.{RefusesExpansion}
use Rattle.rr_lint_file.specs.Files.{HasNoFlat, RefusesMend}
use Rattle.rr_lint_file.proofs.Kept.{same_design}
use Rattle.rr_lint_file.proofs.read.file_text.Goals as goal

pub returns-in-Err-clause-answer : goal.returns-in-Err-clause-answer
returns-in-Err-clause-answer c =
    stops_on (RefusesExpansion c.args.bytes.now) (RefusesMend c.args.bytes.now _) c.of_directives.result (λ r e. inl e) (c.of_directives.ensures c.args.bytes.now (rw c.in-Err.is at c.expand.ensures.answer))

pub returns-in-Ok-elaborate-clause-design : goal.returns-in-Ok-elaborate-clause-design
returns-in-Ok-elaborate-clause-design c =
    same_design c.checked.result c.in-Ok.expanded c.in-Ok-elaborate.design _ c.checked.ensures.expanded c.checked.ensures.same (rw c.as_slice.ensures.value at c.in-Ok-elaborate.ensures.tree)

pub returns-clause-answer : goal.returns-clause-answer
returns-clause-answer c =
    stops_on (HasNoFlat c.args.bytes.now _) (RefusesMend c.args.bytes.now _) c.without_design.result (λ r n. inr (inl n))
    (c.without_design.ensures c.args.bytes.now c.in-Ok.expanded.text.items _ refl (rw c.in-Ok.is at c.expand.ensures.answer) (rw c.as_slice.ensures.value at c.in-Err-elaborate.ensures.answer))
