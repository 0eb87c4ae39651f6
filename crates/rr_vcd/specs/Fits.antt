-- Tables whose values and cells have no bit past the widths of the ports.
use Rattle.std.specs.Prelude.{ℕ, ◌^◌, ◌<◌, ◌≡◌, List, [], ◌∷◌, length, map, Option}
use Rattle.std.specs.List.{All}
use Rattle.rr_flat.specs.Plain.{Flat}
use Rattle.rr_flat.specs.Inputs.{row_inputs}
use Rattle.rr_flat.specs.Signals.{signal_at}
use Rattle.rr_trace.specs.declared.cell.Cell.{Cell}
use Rattle.rr_trace.specs.Tables.{Table}

abbrev pub widths : Flat → List ℕ → List ℕ
widths flat ids = map (λ id. (signal_at flat.signals id).width) ids

-- a value for each width
unfoldable pub AreValues : List ℕ → List ℕ → Type 0
AreValues [] [] = Unit {0}
AreValues [] (v ∷ vs) = ⊥
AreValues (w ∷ ws) [] = ⊥
AreValues (w ∷ ws) (v ∷ vs) = (v < 2 ^ w) × AreValues ws vs

-- a cell for each width
unfoldable pub AreCells : List ℕ → List Cell → Type 0
AreCells [] [] = Unit {0}
AreCells [] (c ∷ cs) = ⊥
AreCells (w ∷ ws) [] = ⊥
AreCells (w ∷ ws) (c ∷ cs) = (c.value < 2 ^ w) × ((c.known < 2 ^ w) × AreCells ws cs)

-- a row of values and one of cells for each cycle
pub record FitsPorts (flat : Flat) (clock : Option ℕ) (table : Table) : Type 0 where
  pub rows : length table.expected ≡ length table.inputs
  pub inputs : All (AreValues (widths flat (row_inputs clock flat.inputs))) table.inputs
  pub expected : All (AreCells (widths flat flat.outputs)) table.expected
