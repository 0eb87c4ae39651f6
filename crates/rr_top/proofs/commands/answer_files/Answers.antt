use Rattle.rr_words.specs.Plan.{repair, run, sites, check, make, lint, texts_of}
use Rattle.rr_effects.specs.Views.{contents}
use Rattle.rr_top.proofs.commands.answer_files.Goals as goal

pub returns-in-Repair : goal.returns-in-Repair
returns-in-Repair g c =
    let gives = c.repair_files-answer.ensures c.in-Repair.design.now c.in-Repair.table.now in
    let plan = repair c.in-Repair.design.now c.in-Repair.table.now c.in-Repair.cert.now (texts_of c.in-Repair.top) (texts_of c.in-Repair.clock) c.in-Repair.budget c.in-Repair.members in
    rw c.in-Repair.is (c.conclude.ensures plan (contents c.args.files.items) (rw c.in-Repair.is at c.requires.given) (rw (c.deref.ensures.value, c.kind_of.ensures) at gives))

pub returns-in-Run : goal.returns-in-Run
returns-in-Run g c =
    let gives = c.simulate_files-answer.ensures c.in-Run.design.now in
    let plan = run c.in-Run.design.now c.in-Run.table.now (texts_of c.in-Run.top) (texts_of c.in-Run.clock) in
    rw c.in-Run.is (c.conclude-in-Run.ensures plan (contents c.args.files.items) (rw c.in-Run.is at c.requires.given) (rw c.deref-in-Run.ensures.value at gives))

pub returns-in-Sites : goal.returns-in-Sites
returns-in-Sites g c =
    let gives = c.list_files-answer.ensures c.in-Sites.design.now in
    let plan = sites c.in-Sites.design.now (texts_of c.in-Sites.top) (texts_of c.in-Sites.clock) in
    rw c.in-Sites.is (c.conclude-in-Sites.ensures plan (contents c.args.files.items) (rw c.in-Sites.is at c.requires.given) (rw c.deref-in-Sites.ensures.value at gives))

pub returns-in-Check : goal.returns-in-Check
returns-in-Check g c =
    let gives = c.certify_files-answer.ensures c.in-Check.circuit.now c.in-Check.proof.now in
    let plan = check c.in-Check.circuit.now c.in-Check.proof.now in
    rw c.in-Check.is (c.conclude-in-Check.ensures plan (contents c.args.files.items) (rw c.in-Check.is at c.requires.given) gives)

pub returns-in-Make : goal.returns-in-Make
returns-in-Make g c =
    let gives = c.make_files-answer.ensures (contents c.args.files.items) in
    let plan = make c.in-Make.seed c.in-Make.cert.now in
    rw c.in-Make.is (c.conclude-in-Make.ensures plan (contents c.args.files.items) (rw c.in-Make.is at c.requires.given) gives)

pub returns : goal.returns
returns g c =
    let gives = c.lint_files-answer.ensures c.in-Lint.design.now in
    let plan = lint c.in-Lint.design.now (texts_of c.in-Lint.top) in
    rw c.in-Lint.is (c.conclude-in-Lint.ensures plan (contents c.args.files.items) (rw c.in-Lint.is at c.requires.given) (rw c.deref-in-Lint.ensures.value at gives))
