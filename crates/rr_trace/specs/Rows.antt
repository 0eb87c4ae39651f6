-- The rows of a table: a cell for each column, and from these the values of the inputs and the expected outputs.
use Rattle.std.specs.Prelude.{ℕ, ◌+◌, Bool, not, List, [], ◌∷◌, length, map, get_or, Option, Some, None, Result, Ok, Err, nat_eq, nat_lt, if◌then◌else◌}
use Rattle.rr_trace.specs.declared.cell.Cell.{Cell}
use Rattle.rr_trace.specs.declared.cell.CellFault.{CellFault}
use Rattle.rr_trace.specs.declared.cell.CellFault.TheVariants.{Malformed, TooLarge}
use Rattle.rr_trace.specs.declared.fault.TableFault.{TableFault}
use Rattle.rr_trace.specs.declared.fault.TableFault.TheVariants.{RowLength, BadCell, CellTooLarge, TooMany}
use Rattle.rr_flat.specs.declared.fault.Limit.TheVariants.{Rows}
use Rattle.rr_trace.specs.Cells.{cell_of, unknown_cell}
use Rattle.rr_trace.specs.Columns.{Header, and_then, trimmed}
use Rattle.rr_trace.specs.Names.{Text}

abbrev pub cell_or_fault : ℕ → ℕ → Result Cell CellFault → Result Cell TableFault
cell_or_fault row k (Ok c) = Ok c
cell_or_fault row k (Err Malformed) = Err (BadCell row k)
cell_or_fault row k (Err TooLarge) = Err (CellTooLarge row k)

abbrev pub cell_at : ℕ → ℕ → Option ℕ → Text → Result Cell TableFault
cell_at row k None field = Ok unknown_cell
cell_at row k (Some width) field = cell_or_fault row k (cell_of width (trimmed field))

-- the cells of a row in the columns from k on
unfoldable pub cells : ℕ → ℕ → List (Option ℕ) → List Text → Result (List Cell) TableFault
cells row k [] fields = Ok []
cells row k (w ∷ ws) [] = Ok []
cells row k (w ∷ ws) (f ∷ fs) =
    and_then (cell_at row k w f) (λ c.
    and_then (cells row (k + 1) ws fs) (λ cs.
    Ok (c ∷ cs)))

abbrev pub value_in : List Cell → ℕ → ℕ
value_in cs k = (get_or cs k unknown_cell).value

abbrev pub cell_in : List Cell → Option ℕ → Cell
cell_in cs None = unknown_cell
cell_in cs (Some k) = get_or cs k unknown_cell

-- the values of the inputs, whose unknown bits are 0, and what is known of the outputs
pub record Row : Type 0 where
  pub inputs : List ℕ
  pub expected : List Cell

abbrev pub row_of_cells : Header → List Cell → Row
row_of_cells h cs = record { inputs = map (value_in cs) h.inputs; expected = map (cell_in cs) h.outputs }

-- the row with this number, counted from 1
abbrev pub row : Header → ℕ → List Text → Result Row TableFault
row h n fields =
    if nat_lt 65536 n then Err (TooMany Rows n) else
    if not (nat_eq (length fields) (length h.widths)) then Err (RowLength n) else
    and_then (cells n 0 h.widths fields) (λ cs. Ok (row_of_cells h cs))

unfoldable pub rows : Header → ℕ → List (List Text) → Result (List Row) TableFault
rows h n [] = Ok []
rows h n (r ∷ rs) =
    and_then (row h n r) (λ x.
    and_then (rows h (n + 1) rs) (λ xs.
    Ok (x ∷ xs)))
