-- Whether a design runs as a table expects.
use Rattle.std.specs.Prelude.{◌≡◌, ℕ, ◌^◌, ◌<◌, List, [], ◌∷◌, length, All, Option}
use Rattle.rr_flat.specs.Plain.{Flat}
use Rattle.rr_cycle.specs.Cycles.{Run}
use Rattle.rr_trace.specs.declared.cell.Cell.{Cell}
use Rattle.rr_trace.specs.Misses.{AgreeRows}
use Rattle.rr_trace.specs.Tables.{Table}
use Rattle.rr_transition.specs.Cycles.{Design, IsLawfulFlat}

-- its flat design is lawful, and in each row of its run each known expected bit equals the output's bit
pub record Matches (j : Design) (table : Table) : Type 0 where
  pub flat : Flat
  pub clock : Option ℕ
  pub design : IsLawfulFlat j flat clock
  pub outputs : List (List ℕ)
  pub run : Run flat clock table.inputs outputs
  pub agree : AgreeRows table.expected outputs (length table.expected)

-- a cell for each output, of which no bit past the output's width is known
abbrev pub AreFit : List ℕ → List Cell → Type 0
AreFit [] [] = Unit {0}
AreFit [] (c ∷ cells) = ⊥
AreFit (w ∷ widths) [] = ⊥
AreFit (w ∷ widths) (c ∷ cells) = (c.known < 2 ^ w) × AreFit widths cells

-- a table for outputs of these widths: a row of cells for each row of inputs
pub record FitsOutputs (widths : List ℕ) (table : Table) : Type 0 where
  pub rows : length table.expected ≡ length table.inputs
  pub cells : All (AreFit widths) table.expected
