-- The rows of a table, and why it has none. A table is comma-separated values (RFC 4180) or a value change dump (IEEE 1364-2005
-- section 18.2).
use Rattle.std.specs.Prelude.{ℕ, ◌≡◌, Bool, List, All, Option, Ok, Err}
use Rattle.rr_flat.specs.Plain.{Flat}
use Rattle.rr_trace.specs.Tables.{Table, table_of}
use Rattle.rr_trace.specs.Tops.{name_of, ports_of}
use Rattle.rr_trace.specs.declared.fault.TableFault.TheVariants as table
use Rattle.rr_vcd.specs.Faults.{RefusesVcd}
use Rattle.rr_vcd.specs.Sampled.{IsSampled}
use Rattle.rr_vcd.specs.declared.fault.VcdFault.TheVariants as vcd
use Rattle.rr_meaning.specs.Calls.{IsRow}
use Rattle.rr_run.specs.declared.rows.TableKind.{TableKind}
use Rattle.rr_run.specs.declared.rows.TableKind.TheVariants as kind
use Rattle.rr_run.specs.Refusals.{Refusal, At, TooMany, Expanded, NoHeader, UnknownColumn, ColumnTwice, MissingInput, RowLength, BadCell, CellTooLarge, NotUtf8, BadVcd, NoScope}

-- the rows of a table of this kind for the ports of a design's top, with its clock and the direction of its edges
abbrev pub ReadsTable : TableKind → Flat → Option ℕ → Bool → List ℕ → Table → Type 0
ReadsTable kind.Csv flat clock rising bytes rows = table_of (ports_of flat clock) bytes ≡ Ok rows
ReadsTable kind.Vcd flat clock rising bytes rows = IsSampled flat clock rising bytes rows

-- a value for each input but the clock in each row
abbrev pub FitsInputs : Flat → Option ℕ → Table → Type 0
FitsInputs flat clock rows = All (IsRow flat clock) rows.inputs

-- why a text is no table of comma-separated values for the ports
abbrev pub RefusesCsv : Flat → Option ℕ → List ℕ → Refusal → Type 0
RefusesCsv flat clock bytes (At what at) = ⊥
RefusesCsv flat clock bytes (TooMany limit count) = table_of (ports_of flat clock) bytes ≡ Err (table.TooMany limit count)
RefusesCsv flat clock bytes (Expanded count) = ⊥
RefusesCsv flat clock bytes NoHeader = table_of (ports_of flat clock) bytes ≡ Err table.NoHeader
RefusesCsv flat clock bytes (UnknownColumn column) = table_of (ports_of flat clock) bytes ≡ Err (table.UnknownColumn column)
RefusesCsv flat clock bytes (ColumnTwice column) = table_of (ports_of flat clock) bytes ≡ Err (table.ColumnTwice column)
RefusesCsv flat clock bytes (MissingInput name) = (id : ℕ) × ((table_of (ports_of flat clock) bytes ≡ Err (table.MissingInput id)) × (name ≡ name_of flat id))
RefusesCsv flat clock bytes (RowLength row) = table_of (ports_of flat clock) bytes ≡ Err (table.RowLength row)
RefusesCsv flat clock bytes (BadCell row column) = table_of (ports_of flat clock) bytes ≡ Err (table.BadCell row column)
RefusesCsv flat clock bytes (CellTooLarge row column) = table_of (ports_of flat clock) bytes ≡ Err (table.CellTooLarge row column)
RefusesCsv flat clock bytes NotUtf8 = table_of (ports_of flat clock) bytes ≡ Err table.NotUtf8
RefusesCsv flat clock bytes (BadVcd line) = ⊥
RefusesCsv flat clock bytes NoScope = ⊥

-- why a text is no dump with rows for them
abbrev pub RefusesDump : Flat → Option ℕ → Bool → List ℕ → Refusal → Type 0
RefusesDump flat clock rising bytes (At what at) = ⊥
RefusesDump flat clock rising bytes (TooMany limit count) = RefusesVcd flat clock rising bytes (vcd.TooMany limit count)
RefusesDump flat clock rising bytes (Expanded count) = ⊥
RefusesDump flat clock rising bytes NoHeader = ⊥
RefusesDump flat clock rising bytes (UnknownColumn column) = ⊥
RefusesDump flat clock rising bytes (ColumnTwice column) = ⊥
RefusesDump flat clock rising bytes (MissingInput name) = ⊥
RefusesDump flat clock rising bytes (RowLength row) = ⊥
RefusesDump flat clock rising bytes (BadCell row column) = ⊥
RefusesDump flat clock rising bytes (CellTooLarge row column) = ⊥
RefusesDump flat clock rising bytes NotUtf8 = ⊥
RefusesDump flat clock rising bytes (BadVcd line) = RefusesVcd flat clock rising bytes (vcd.BadVcd line)
RefusesDump flat clock rising bytes NoScope = RefusesVcd flat clock rising bytes vcd.NoScope

abbrev pub RefusesTable : TableKind → Flat → Option ℕ → Bool → List ℕ → Refusal → Type 0
RefusesTable kind.Csv flat clock rising bytes refusal = RefusesCsv flat clock bytes refusal
RefusesTable kind.Vcd flat clock rising bytes refusal = RefusesDump flat clock rising bytes refusal
