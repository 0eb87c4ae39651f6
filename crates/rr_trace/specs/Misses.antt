-- Whether outputs are those that a table expects.
use Rattle.std.specs.Prelude.{ℕ, ◌<◌, ◌≡◌, List, [], length, get_or, bit_and}
use Rattle.rr_trace.specs.declared.cell.Cell.{Cell}
use Rattle.rr_trace.specs.declared.miss.Miss.{Miss}
use Rattle.rr_trace.specs.Cells.{unknown_cell}

-- the known bits are equal
abbrev pub Agrees : Cell → ℕ → Type 0
Agrees c value = bit_and c.known c.value ≡ bit_and c.known value

-- the first n outputs of a row agree
abbrev pub Agree : List Cell → List ℕ → ℕ → Type 0
Agree cells values n = (o : ℕ) → o < n → Agrees (get_or cells o unknown_cell) (get_or values o 0)

-- an output of a row is the first that does not
pub record IsFirstIn (cells : List Cell) (values : List ℕ) (o : ℕ) : Type 0 where
  pub inside : o < length cells
  pub differs : Agrees (get_or cells o unknown_cell) (get_or values o 0) → ⊥
  pub before : Agree cells values o

-- the first n rows agree whole
abbrev pub AgreeRows : List (List Cell) → List (List ℕ) → ℕ → Type 0
AgreeRows expected outputs n = (r : ℕ) → r < n → Agree (get_or expected r []) (get_or outputs r []) (length (get_or expected r []))

-- a miss is the first of all, row by row
pub record IsFirstMiss (expected : List (List Cell)) (outputs : List (List ℕ)) (m : Miss) : Type 0 where
  pub inside : m.row < length expected
  pub earlier : AgreeRows expected outputs m.row
  pub first : IsFirstIn (get_or expected m.row []) (get_or outputs m.row []) m.output
