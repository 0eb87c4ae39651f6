-- The table that is sampled from a value change dump (IEEE 1364-2005 section 18.2) for the ports of a flat design's top: a
-- row for each edge of the clock, with the values before it; without a clock a row for each moment.
use Rattle.std.specs.Prelude.{ℕ, ◌+◌, ◌-◌, ◌≡◌, ◌≤◌, List, length, map, Bool, not, ◌&&◌, ◌==◌, Option, Some, None, if◌then◌else◌}
use Rattle.std.specs.List.{filter, range_with_len}
use Rattle.rr_flat.specs.Plain.{Flat}
use Rattle.rr_vcd_text.specs.Dump.{Declared, Told, IsDump}
use Rattle.rr_trace.specs.declared.cell.Cell.{Cell}
use Rattle.rr_trace.specs.Cells.{unknown_cell}
use Rattle.rr_trace.specs.Rows.{Row}
use Rattle.rr_trace.specs.Tables.{Table, table_of_rows}
use Rattle.rr_vcd.specs.Tops.{Port, Clock, Top, top_of}
use Rattle.rr_vcd.specs.Values.{cell_of}
use Rattle.rr_vcd.specs.Moments.{up_to, last_change, valued}
use Rattle.rr_vcd.specs.Scopes.{id_in, IsScope}

-- the bits of a variable behind what was told; those that the scope does not have are known nowhere
abbrev pub cell_by : ℕ → Option (List ℕ) → List Told → Cell
cell_by width None told = unknown_cell
cell_by width (Some id) told = cell_of width (last_change id told)

-- a port in a scope
abbrev pub cell_in : Declared → ℕ → List Told → Port → Cell
cell_in d s told p = cell_by p.width (id_in s p d.variables) told

-- the row behind what was told; unknown bits of an input are 0
abbrev pub row_behind : Top → Declared → ℕ → List Told → Row
row_behind top d s told = record { inputs = map (λ p. (cell_in d s told p).value) top.inputs; expected = map (cell_in d s told) top.outputs }

-- the row after a moment
abbrev pub row_after : Top → Declared → ℕ → List Told → ℕ → Row
row_after top d s told i = row_behind top d s (up_to i told)

-- a bit is known to be 1, or to be 0
abbrev pub is_level : Bool → Cell → Bool
is_level high c = c.known == 1 && c.value == (if high then 1 else 0)

abbrev pub goes_over : Declared → ℕ → Clock → List Told → List Told → Bool
goes_over d s clock earlier later = is_level (not clock.rising) (cell_in d s earlier clock.port) && is_level clock.rising (cell_in d s later clock.port)

-- the clock goes over its edge in the moment behind this one
abbrev pub is_edge : Declared → ℕ → Clock → List Told → ℕ → Bool
is_edge d s clock told i = goes_over d s clock (up_to i told) (up_to (i + 1) told)

-- of so many moments those after which the values are rows
abbrev pub sampled : Option Clock → Declared → ℕ → List Told → ℕ → List ℕ
sampled None d s told count = range_with_len 0 count
sampled (Some clock) d s told count = filter (is_edge d s clock told) (range_with_len 0 (count - 1))

abbrev pub rows_of : Top → Declared → ℕ → List Told → ℕ → List Row
rows_of top d s told count = map (row_after top d s told) (sampled top.clock d s told count)

-- the rows of a dump
pub record Samples (top : Top) (bytes : List ℕ) (rows : List Row) : Type 0 where
  pub declared : Declared
  pub told : List Told
  pub scope : ℕ
  pub dump : IsDump bytes declared told
  pub chosen : IsScope top declared scope
  pub are : rows ≡ rows_of top declared scope told (valued told)

-- the table of a dump
pub record IsSampled (flat : Flat) (clock : Option ℕ) (rising : Bool) (bytes : List ℕ) (table : Table) : Type 0 where
  pub rows : List Row
  pub samples : Samples (top_of flat clock rising) bytes rows
  pub few : length rows ≤ 65536
  pub is : table ≡ table_of_rows rows
