use Rattle.std.proofs.Common.{inr, arith}
use Rattle.std.proofs.lemmas.Result.{IfOk-weaker}
use Rattle.rr_sites_command.specs.View.{source_file}
use Rattle.rr_endings.specs.Views.{plain_answer}
use Rattle.rr_search.specs.Answers.{task_of}
use Rattle.rr_repair.specs.Views.{plain_request}
use Rattle.rr_repair.proofs.Telling.{beyond_told, choice_length, plain_count, repair_told}
use Rattle.rr_repair.proofs.judging.told.Goals as goal

-- src/judging.rt
pub repaired-requires-clause-few : goal.repaired-requires-clause-few
repaired-requires-clause-few c =
    let r = rw c.in-Repair.is at c.requires.found in
    let n = choice_length c.args.job.now.list.now c.in-Repair.choice.picks.items r.choice in
    let f = c.requires.few in
    omega (arith, n, f)

pub returns-in_ok-found-in-Repair-clause-answer : goal.returns-in_ok-found-in-Repair-clause-answer
returns-in_ok-found-in-Repair-clause-answer c =
    let e = c.in_ok-found-in-Repair.ensures in
    repair_told (plain_request c.args.request.now) c.args.bytes.now (source_file c.args.file.now) (task_of c.args.job.now) (plain_answer c.in_ok-found-in-Repair.found)
    c.args.tested c.in-Repair.choice.picks.items c.in-Repair.k c.in-Repair.circuit c.in-Repair.journal (rw c.in-Repair.is at c.requires.found) e.files e.accepted e.printed e.tree e.notes e.status

pub returns-in_ok-found-in-NoRepair-clause-answer : goal.returns-in_ok-found-in-NoRepair-clause-answer
returns-in_ok-found-in-NoRepair-clause-answer c =
    let e = c.in_ok-found-in-NoRepair.ensures in
    beyond_told (plain_request c.args.request.now) c.args.bytes.now (source_file c.args.file.now) (task_of c.args.job.now) (plain_answer c.in_ok-found-in-NoRepair.found)
    _ c.in-NoRepair.circuit c.in-NoRepair.journal (rw c.in-NoRepair.is at c.requires.found) (plain_count c.sites-sites.result.now c.args.job.now.list.now c.sites-sites.ensures.same) e.files e.accepted e.printed e.notes e.status

pub told_open-requires-clause-left : goal.told_open-requires-clause-left
told_open-requires-clause-left c = rw c.in-Spent.is at c.requires.found

pub returns-in-Spent-clause-answer : goal.returns-in-Spent-clause-answer
returns-in-Spent-clause-answer c = IfOk-weaker c.told_open.result _ _ (λ f o. inr (inr (inr o))) c.told_open.ensures.answer
