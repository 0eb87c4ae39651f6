-- Tables of inputs and expected outputs: the records of a comma-separated text (RFC 4180, as `csv` reads it), of which
-- the first is the header.
use Rattle.std.specs.Prelude.{ℕ, List, [], ◌∷◌, map, Result, Ok, Err, if◌then◌else◌}
use Rattle.std.specs.Str.{is_utf8}
use Rattle.csv.specs.Reading.{default_config, records, strip_bom}
use Rattle.rr_trace.specs.declared.cell.Cell.{Cell}
use Rattle.rr_trace.specs.declared.fault.TableFault.{TableFault}
use Rattle.rr_trace.specs.declared.fault.TableFault.TheVariants.{NoHeader, NotUtf8}
use Rattle.rr_trace.specs.Columns.{Ports, and_then, header}
use Rattle.rr_trace.specs.Names.{Text}
use Rattle.rr_trace.specs.Rows.{Row, rows}

pub record Table : Type 0 where
  pub inputs : List (List ℕ)
  pub expected : List (List Cell)

abbrev pub table_of_rows : List Row → Table
table_of_rows xs = record { inputs = map (λ x. x.inputs) xs; expected = map (λ x. x.expected) xs }

abbrev pub table_of_records : Ports → List (List Text) → Result Table TableFault
table_of_records p [] = Err NoHeader
table_of_records p (names ∷ rs) =
    and_then (header p names) (λ h.
    and_then (rows h 1 rs) (λ xs.
    Ok (table_of_rows xs)))

-- every record of a text, which may begin with a byte order mark
abbrev pub records_of : List ℕ → List (List Text)
records_of bytes = records default_config (strip_bom bytes)

-- the table of a text, or its first fault
abbrev pub table_of : Ports → List ℕ → Result Table TableFault
table_of p bytes = if is_utf8 bytes then table_of_records p (records_of bytes) else Err NotUtf8
