-- What ports, headers and tables stand for as plain data.
use Rattle.std.specs.Prelude.{ℕ, ◌<◌, ◌≤◌, ◌≡◌, ◌⊎◌, ◌^◌, ◌++◌, ◌∷◌, List, [], length, map, All, Option, option_map, IfSome, Some, None, Result, Err, Vec}
use Rattle.std.specs.declared.alloc.Global.{Global}
use Rattle.rr_trace.specs.declared.fault.TableFault.{TableFault}
use Rattle.rr_trace.specs.declared.fault.TableFault.TheVariants.{Memory}
use Rattle.rr_trace.specs.declared.ports.Port.{Port}
use Rattle.rr_trace.specs.declared.ports.Ports.{Ports}
use Rattle.rr_trace.specs.declared.header.Header.{Header}
use Rattle.rr_trace.specs.declared.table.Table.{Table}
use Rattle.rr_trace.specs.Columns as columns
use Rattle.rr_trace.specs.Tables as tables
use Rattle.rr_trace.specs.Rows.{Row}
use Rattle.rr_trace.specs.Names.{Text, number_of}

-- want of memory may come in place of any answer
abbrev pub Refuses : {A : Type 0} → Result A TableFault → TableFault → Type 0
Refuses due e = (e ≡ Memory) ⊎ (due ≡ Err e)

-- two lists give each name the same number
abbrev pub SameNumbers : List (Text × ℕ) → List (Text × ℕ) → Type 0
SameNumbers xs ys = (t : Text) → number_of t xs ≡ number_of t ys

abbrev pub plain_port : Port → columns.Port
plain_port x = record { id = x.id; name = x.name.now; width = x.width }

abbrev pub plain_ports : Ports → columns.Ports
plain_ports p = record { clock = option_map (λ t. t.now) p.clock; inputs = map plain_port p.inputs.items; outputs = map plain_port p.outputs.items }

abbrev pub IsWidth : ℕ → Type 0
IsWidth w = (1 ≤ w) × (w ≤ 128)

-- a column that is read has 1 to 128 bits
abbrev pub IsColumn : Option ℕ → Type 0
IsColumn None = Unit {0}
IsColumn (Some w) = IsWidth w

-- 1 to 128 bits each, and their widths by name
pub record ArePorts (p : Ports) : Type 0 where
  pub inputs : All (λ x. IsWidth x.width) p.inputs.items
  pub outputs : All (λ x. IsWidth x.width) p.outputs.items
  pub widths : SameNumbers p.widths (columns.widths_of (plain_ports p))

abbrev pub plain_header : Header → columns.Header
plain_header h = record { widths = h.widths.items; inputs = h.inputs.items; outputs = h.outputs.items }

-- what each header keeps: the columns that are read have 1 to 128 bits, and every port's column is there
pub record IsHeader (h : columns.Header) : Type 0 where
  pub few : length h.widths ≤ 2 ^ 32
  pub widths : All IsColumn h.widths
  pub inputs : All (λ k. k < length h.widths) h.inputs
  pub outputs : All (λ o. IfSome o (λ k. k < length h.widths)) h.outputs

abbrev pub plain_table : Table → tables.Table
plain_table t = record { inputs = map (λ v. v.items) t.inputs.items; expected = map (λ v. v.items) t.expected.items }

abbrev pub plain_values : List (Vec ℕ Global) → List (List ℕ)
plain_values rows = map (λ v. v.items) rows

-- one more row at its end
abbrev pub with_row : tables.Table → Row → tables.Table
with_row t x = record { inputs = t.inputs ++ x.inputs ∷ []; expected = t.expected ++ x.expected ∷ [] }
