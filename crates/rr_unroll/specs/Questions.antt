-- The question that a transition and a table ask: for each known expected bit, whether it is the one that is there.
use Rattle.std.specs.Prelude.{ℕ, List, [], ◌∷◌, ◌++◌, Bool, not, cond, map, take, drop, get_or}
use Rattle.rr_cycle.specs.Exec.{first, rest}
use Rattle.rr_trace.specs.declared.cell.Cell.{Cell}
use Rattle.rr_transition.specs.Transitions.{Transition, words, cycle_bits}

abbrev pub is_same : Bool → Bool → Bool
is_same x y = cond x y (not y)

-- at each known place, in order, whether the expected bit is the bit that was found
unfoldable pub agree : List Bool → List Bool → List Bool → List Bool
agree [] expected found = []
agree (k ∷ known) expected found = cond k (is_same (first expected) (first found) ∷ []) [] ++ agree known (rest expected) (rest found)

-- of a row of cells, each of a width: cell by cell, lowest bit first
abbrev pub agree_row : List ℕ → List Cell → List Bool → List Bool
agree_row widths cells found = agree (words widths (map (λ (c : Cell). c.known) cells)) (words widths (map (λ (c : Cell). c.value) cells)) found

-- of each row that the transition makes from a state, row by row; a row without cells expects nothing
unfoldable pub judged : Transition → List Bool → List Bool → List (List ℕ) → List (List Cell) → List Bool
judged t choice state [] expected = []
judged t choice state (row ∷ rows) expected =
    agree_row t.output_widths (get_or expected 0 []) (drop t.state_bits (cycle_bits t choice state row))
    ++ judged t choice (take t.state_bits (cycle_bits t choice state row)) rows (drop 1 expected)

-- of each row of a run's outputs
unfoldable pub agreed : List ℕ → List (List Cell) → List (List ℕ) → List Bool
agreed widths expected [] = []
agreed widths expected (row ∷ rows) = agree_row widths (get_or expected 0 []) (words widths row) ++ agreed widths (drop 1 expected) rows
