use Rattle.std.proofs.Common.{arith}
use Rattle.rr_sites_command.specs.View.{source_file}
use Rattle.rr_endings.specs.Views.{plain_answer}
use Rattle.rr_search.specs.Answers.{task_of}
use Rattle.rr_repair.specs.Views.{plain_request}
use Rattle.rr_repair.proofs.Telling.{choice_length, found_told, nothing_told}
use Rattle.rr_repair.proofs.judging.told_open.Goals as goal

-- src/judging.rt
pub found_open-requires-clause-few : goal.found_open-requires-clause-few
found_open-requires-clause-few c =
    let l = rw c.in-Some.is at c.requires.left in
    let n = choice_length c.args.job.now.list.now c.in-Some.choice.picks.items l.found.choice in
    let f = c.requires.few in
    omega (arith, n, f)

pub returns-in_ok-told-in-Some-clause-answer : goal.returns-in_ok-told-in-Some-clause-answer
returns-in_ok-told-in-Some-clause-answer c =
    let e = c.in_ok-told-in-Some.ensures in
    found_told (plain_request c.args.request.now) c.args.bytes.now (source_file c.args.file.now) (task_of c.args.job.now) (plain_answer c.in_ok-told-in-Some.told)
    c.requires.members c.requires.budget c.args.bound c.args.circuit.now c.args.journal.now e.files e.status c.in-Some.choice (rw c.in-Some.is at c.requires.left) e.printed e.tree e.notes

pub returns-in_ok-told-in-None-clause-answer : goal.returns-in_ok-told-in-None-clause-answer
returns-in_ok-told-in-None-clause-answer c =
    let e = c.in_ok-told-in-None.ensures in
    nothing_told (plain_request c.args.request.now) c.args.bytes.now (source_file c.args.file.now) (task_of c.args.job.now) (plain_answer c.in_ok-told-in-None.told)
    c.requires.members c.requires.budget c.args.bound c.args.circuit.now c.args.journal.now e.files e.status (rw c.in-None.is at c.requires.left) e.printed e.notes
