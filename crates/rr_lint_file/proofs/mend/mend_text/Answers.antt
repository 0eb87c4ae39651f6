use Rattle.std.proofs.Common.{◌≡◌, ap, inl, inr, refl}
use Rattle.rr_edit.specs.View.{plain_edits}
use Rattle.rr_run.proofs.FileRuns.{stops_on}
use Rattle.rr_lint_file.specs.Files.{HasEdits, HasWordLatch, IsFixedAt, IsMadeIn, IsMendedFile, RefusesEdits}
use Rattle.rr_lint_file.specs.View.{source_file}
use Rattle.rr_lint_file.proofs.Kept.{on_result}
use Rattle.rr_lint_file.proofs.mend.mend_text.Goals as goal

pub returns-in-Ok : goal.returns-in-Ok
returns-in-Ok c = λ top design targets labels.
    let read = c.args.read.now in
    let made = plain_edits c.as_slice.result.now in
    let same : made ≡ plain_edits c.in-Ok.made.items = ap plain_edits c.as_slice.ensures.value in
    let has : HasEdits c.args.file.now top (source_file read) made =
    record { expansion = c.requires.expansion; flat = _; design = design; targets = targets; labels = labels; edits = rw same c.in-Ok.ensures.made } in
    on_result (IsMadeIn c.args.file.now read.expanded.origins.items made) (IsMendedFile c.args.file.now top) (IsFixedAt read.expanded.origins.items made) (RefusesEdits c.args.file.now top) (λ v. v.items) c.made_in.result
    (λ out m. record { read = source_file read; made = made; has = has; made_in = m }) (λ refusal f. inr (record { read = source_file read; made = made; has = has; fixed = f })) c.made_in.ensures

pub returns-in-Err : goal.returns-in-Err
returns-in-Err c = λ top design targets labels.
    stops_on (HasWordLatch c.args.file.now top) (RefusesEdits c.args.file.now top) c.without_edits.result (λ refusal h. inl h)
    (c.without_edits.ensures c.args.file.now top refl c.requires.expansion design targets labels c.in-Err.ensures.made)
