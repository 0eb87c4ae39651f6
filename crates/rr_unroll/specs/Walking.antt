-- The run of a transition under one choice: the state before each row of a table, and the first row that it misses.
use Rattle.std.specs.Prelude.{◌≡◌, ℕ, ◌<◌, List, [], ◌∷◌, Bool, true, length, get_or, take, drop, All, Option, Some, None}
use Rattle.rr_trace.specs.Tables.{Table}
use Rattle.rr_transition.specs.Transitions.{Transition, cycle_bits}
use Rattle.rr_unroll.specs.Questions.{agree_row}

-- the state that a transition comes to from a state by rows of inputs
unfoldable pub state_after : Transition → List Bool → List Bool → List (List ℕ) → List Bool
state_after t choice state [] = state
state_after t choice state (row ∷ rows) = state_after t choice (take t.state_bits (cycle_bits t choice state row)) rows

-- the outputs of a row of the run have the known bits of its cells; a row without cells expects nothing
abbrev pub RowAgrees : Transition → List Bool → Table → ℕ → Type 0
RowAgrees t choice table row =
    All (λ (b : Bool). b ≡ true)
    (agree_row t.output_widths (get_or table.expected row [])
    (drop t.state_bits (cycle_bits t choice (state_after t choice t.start (take row table.inputs)) (get_or table.inputs row []))))

-- a row is the first of the run that does not
pub record IsFirstMiss (t : Transition) (choice : List Bool) (table : Table) (row : ℕ) : Type 0 where
  pub here : row < length table.inputs
  pub before : (k : ℕ) → k < row → RowAgrees t choice table k
  pub missed : RowAgrees t choice table row → ⊥

-- the first such row, or none where each row agrees
abbrev pub IsFirstMissed : Transition → List Bool → Table → Option ℕ → Type 0
IsFirstMissed t choice table None = (k : ℕ) → k < length table.inputs → RowAgrees t choice table k
IsFirstMissed t choice table (Some row) = IsFirstMiss t choice table row
