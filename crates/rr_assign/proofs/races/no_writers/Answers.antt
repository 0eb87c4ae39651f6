use Rattle.std.proofs.Common.{◌≡◌, ◌∙◌, ap, ℕ, zero, suc, replicate, refl}
use Rattle.rr_assign.specs.Races.{writer_table}
use Rattle.rr_assign.specs.declared.races.Writers.{Writers}
use Rattle.rr_assign.specs.declared.races.Writers.TheVariants.{Nobody}
use Rattle.rr_assign.proofs.Racing.{writers_nothing}
use Rattle.rr_assign.proofs.races.no_writers.Goals as goal

reads_nobody : (n i : ℕ) → writer_table (replicate n Nobody) i ≡ Nobody
reads_nobody zero i = refl
reads_nobody (suc n) zero = refl
reads_nobody (suc n) (suc i) = reads_nobody n i

pub returns-clause-nothing : goal.returns-clause-nothing
returns-clause-nothing c = writers_nothing c.in_ok-table.table.items (λ id. ap (λ z. writer_table z id) (c.in_ok-table.ensures.items_if_clones_equal (λ y h. h)) ∙ reads_nobody _ id)
