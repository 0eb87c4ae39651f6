-- The text of a table: a header with the names of the inputs and then of the outputs, and a row of their values in
-- decimal for each cycle, as `csv` writes records that end in a line feed.
use Rattle.std.specs.Prelude.{ℕ, List, [], ◌∷◌, ◌++◌, length, map, get_or, decimal, true}
use Rattle.std.specs.List.{flat_map, range_with_len}
use Rattle.csv.specs.Writing.{default_writer, row_text, with_flexible}
use Rattle.csv.specs.declared.writer.WriterBuilder.{WriterBuilder}
use Rattle.rr_trace.specs.Columns.{Ports}
use Rattle.rr_trace.specs.Names.{Text}

abbrev pub layout : WriterBuilder
layout = with_flexible default_writer true

abbrev pub names_of : Ports → List Text
names_of p = map (λ x. x.name) p.inputs ++ map (λ x. x.name) p.outputs

-- the row with this number, counted from 0
abbrev pub fields_at : List (List ℕ) → List (List ℕ) → ℕ → List Text
fields_at inputs outputs k = map decimal (get_or inputs k []) ++ map decimal (get_or outputs k [])

-- as many rows as there are of inputs
abbrev pub fields_of_table : Ports → List (List ℕ) → List (List ℕ) → List (List Text)
fields_of_table p inputs outputs = names_of p ∷ map (fields_at inputs outputs) (range_with_len 0 (length inputs))

abbrev pub table_text : Ports → List (List ℕ) → List (List ℕ) → List ℕ
table_text p inputs outputs = flat_map (row_text layout) (fields_of_table p inputs outputs)
