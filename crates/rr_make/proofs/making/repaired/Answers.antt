use Rattle.std.proofs.Common.{◌∙◌, ℕ, List, subst}
use Rattle.rr_made_input.specs.Made.{made_table}
use Rattle.rr_endings.specs.Views.{plain_answer, StopsWhere}
use Rattle.rr_repair.specs.Repairs.{CountsRepair, RefusesRepair}
use Rattle.rr_repair.specs.Views.{plain_counts}
use Rattle.rr_make.specs.Makes.{made_request}
use Rattle.rr_make.proofs.making.repaired.Goals as goal

pub summed-requires : goal.summed-requires
summed-requires g c =
    let w = made_request c.args.cert.now in
    let design = c.as_bytes-design.ensures.value ∙ c.requires.design in
    let table = c.as_slice-table.ensures.value ∙ c.requires.table in
    let found = plain_answer c.in-Ok.counted.found in
    subst (λ (d : List ℕ). CountsRepair w d (made_table c.args.seed) found (plain_counts c.in-Ok.counted)) design
    (subst (λ (t : List ℕ). CountsRepair w c.as_bytes-design.result.now t found (plain_counts c.in-Ok.counted)) table c.in-Ok.ensures)

pub returns-in-Err : goal.returns-in-Err
returns-in-Err g c =
    let w = made_request c.args.cert.now in
    let design = c.as_bytes-design.ensures.value ∙ c.requires.design in
    let table = c.as_slice-table.ensures.value ∙ c.requires.table in
    subst (λ (d : List ℕ). StopsWhere (RefusesRepair w d (made_table c.args.seed)) c.in-Err.stop) design
    (subst (λ (t : List ℕ). StopsWhere (RefusesRepair w c.as_bytes-design.result.now t) c.in-Err.stop) table c.in-Err.ensures)
