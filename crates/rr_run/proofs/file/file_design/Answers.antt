use Rattle.std.proofs.Common.{ℕ, List, inl, option_map, refl, subst}
use Rattle.rr_run.specs.Files.{RefusesExpansion, RefusesFileDesign}
use Rattle.rr_run.specs.Refusals.{StopsWhere}
use Rattle.rr_run.specs.Runs.{RefusesDesign}
use Rattle.rr_run.proofs.FileRuns.{stops_on}
use Rattle.rr_run.proofs.file.file_design.Goals as goal

pub returns-in-Err-clause-answer : goal.returns-in-Err-clause-answer
returns-in-Err-clause-answer c =
    let file = c.args.bytes.now in
    stops_on (RefusesExpansion file) (RefusesFileDesign file (option_map (λ n. n.now) c.args.top) (option_map (λ w. w.now) c.args.clock)) c.of_directives.result (λ r h. inl h) (c.of_directives.ensures file c.in-Err.ensures.answer)

pub returns-clause-answer : goal.returns-clause-answer
returns-clause-answer c =
    c.fault_placed.ensures c.args.bytes.now c.in-Ok.expanded.text.items (option_map (λ n. n.now) c.args.top) (option_map (λ w. w.now) c.args.clock) c.in-Ok.ensures.answer refl
    (subst (λ (t : List ℕ). StopsWhere (RefusesDesign t (option_map (λ n. n.now) c.args.top) (option_map (λ w. w.now) c.args.clock)) c.in-Err-lawful_design.fault) c.as_slice.ensures.value c.in-Err-lawful_design.ensures.answer)
