use Rattle.std.proofs.Common.{List, All, subst, sym}
use Rattle.std.proofs.lemmas.List.Elements.{All-map}
use Rattle.rr_choice.specs.declared.pick.Choice.{Choice}
use Rattle.rr_choice.specs.Choices.{IsChoice}
use Rattle.rr_syntax.specs.View.{plain_source}
use Rattle.rr_sites_command.specs.View.{source_file}
use Rattle.rr_flat.specs.View.{plain_flat}
use Rattle.rr_endings.specs.Views.{plain_answer}
use Rattle.rr_repair.specs.Repairs.{design_of}
use Rattle.rr_repair.specs.Views.{plain_counts, plain_request}
use Rattle.rr_search.proofs.Tasks.{task_stands}
use Rattle.rr_repair.proofs.Telling.{counted_told, task_of_design}
use Rattle.rr_repair.proofs.judging.searched.Goals as goal

-- src/judging.rt
pub least-requires-clause-task : goal.least-requires-clause-task
least-requires-clause-task g c =
    let j = design_of (plain_request c.args.request.now) (plain_source c.args.file.now.design.source.now) in
    λ κs o. task_stands _ j (c.in_ok-cycle.ensures j c.requires.fits) c.requires.some c.requires.most c.requires.budget

pub told-requires-clause-found : goal.told-requires-clause-found
told-requires-clause-found g c =
    let j = design_of (plain_request c.args.request.now) (plain_source c.args.file.now.design.source.now) in
    c.in_ok-answer.ensures.answer j
    (task_of_design c.args.request.now.kind _ j (c.in_ok-cycle.ensures j c.requires.fits) (plain_flat c.args.file.now.design.flat) c.requires.fits.design c.args.file.now.design.order.clock c.args.file.now.design.order.rising c.requires.read.0 c.requires.read.1)

pub returns : goal.returns
returns g c =
    let w = plain_request c.args.request.now in
    let source = plain_source c.args.file.now.design.source.now in
    let j = design_of w source in
    let is = c.in_ok-answer.ensures.answer j
    (task_of_design c.args.request.now.kind _ j (c.in_ok-cycle.ensures j c.requires.fits) (plain_flat c.args.file.now.design.flat) c.requires.fits.design c.args.file.now.design.order.clock c.args.file.now.design.order.rising c.requires.read.0 c.requires.read.1) in
    rw c.with_counts.ensures.found
    (counted_told w c.args.bytes.now (source_file c.args.file.now) _ (plain_answer c.in_ok-found.found) c.in_ok-answer.answer (plain_counts c.with_counts.result) is c.in_ok-found.ensures.answer c.in_ok-found.ensures.status c.with_counts.ensures.rows c.with_counts.ensures.sites c.with_counts.ensures.changes)

pub proposals-requires-clause-bits : goal.proposals-requires-clause-bits
proposals-requires-clause-bits g c κs within =
    let j = design_of (plain_request c.args.request.now) (plain_source c.args.file.now.design.source.now) in
    (c.in_ok-cycle.ensures j c.requires.fits).choice_bits

pub least-requires-clause-proposals : goal.least-requires-clause-proposals
least-requires-clause-proposals g c κs within =
    All-map (IsChoice c.args.list.now) (λ (x : Choice). x.picks.items) c.as_slice.result.now
    (subst (λ (xs : List Choice). All (λ (x : Choice). IsChoice c.args.list.now x.picks.items) xs) (sym c.as_slice.ensures.value) c.in_ok-proposed.ensures.choices)
