-- How a table is read, by the name of its file.
use Rattle.std.specs.Prelude.{ℕ, List, codes, nat_eq, if◌then◌else◌}
use Rattle.std.specs.List.{ends_with}
use Rattle.rr_run.specs.declared.rows.TableKind.{TableKind}
use Rattle.rr_run.specs.declared.rows.TableKind.TheVariants.{Csv, Vcd}

-- a value change dump where the name ends with these four bytes, and comma-separated values elsewhere
abbrev pub kind_of : List ℕ → TableKind
kind_of name = if ends_with nat_eq name (codes ".vcd") then Vcd else Csv
