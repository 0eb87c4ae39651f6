-- The header of a table: which ports its columns name.
use Rattle.std.specs.Prelude.{ℕ, ◌+◌, ◌-◌, Bool, true, false, ◌||◌, List, [], ◌∷◌, ◌++◌, length, take, drop, map, Option, Some, None, Result, Ok, Err, nat_eq, if◌then◌else◌}
use Rattle.std.specs.List.{list_any, prefix_len, suffix_len}
use Rattle.std.specs.Str.{bytes_eq}
use Rattle.rr_trace.specs.declared.fault.TableFault.{TableFault}
use Rattle.rr_trace.specs.declared.fault.TableFault.TheVariants.{UnknownColumn, ColumnTwice, MissingInput}
use Rattle.rr_trace.specs.Names.{Text, number_of, numbered}

abbrev pub and_then : {A B : Type 0} → Result A TableFault → (A → Result B TableFault) → Result B TableFault
and_then (Ok a) f = f a
and_then (Err e) f = Err e

-- Columns

abbrev pub is_blank : ℕ → Bool
is_blank c = nat_eq c 32 || nat_eq c 9

abbrev pub without_end : Text → Text
without_end t = take (length t - suffix_len is_blank t) t

-- a field without the blanks and tabs at its ends
abbrev pub trimmed : Text → Text
trimmed t = without_end (drop (prefix_len is_blank t) t)

-- a port of the top by the number of its signal, its name and its number of bits
pub record Port : Type 0 where
  pub id : ℕ
  pub name : Text
  pub width : ℕ

abbrev pub no_port : Port
no_port = record { id = 0; name = []; width = 0 }

-- the ports of the top in order: the name of the clock, the other inputs, and the outputs
pub record Ports : Type 0 where
  pub clock : Option Text
  pub inputs : List Port
  pub outputs : List Port

abbrev pub is_name : Option Text → Text → Bool
is_name None t = false
is_name (Some name) t = bytes_eq t name

abbrev pub time : Text
time = 116 ∷ 105 ∷ 109 ∷ 101 ∷ []

-- a column `time` and one of the clock are not read
abbrev pub is_unread : Ports → Text → Bool
is_unread p t = bytes_eq t time || is_name p.clock t

abbrev pub widths_of : Ports → List (Text × ℕ)
widths_of p = map (λ x. (x.name, x.width)) (p.inputs ++ p.outputs)

abbrev pub width_in : Bool → Option ℕ → Option (Option ℕ)
width_in true width = Some None
width_in false None = None
width_in false (Some w) = Some (Some w)

-- the number of bits of a column, `None` where it is not read; a name of no port is a fault
abbrev pub column : Ports → Text → Option (Option ℕ)
column p t = width_in (is_unread p t) (number_of t (widths_of p))

abbrev pub only_once : ℕ → Bool → Option (Option ℕ) → Result (Option ℕ) TableFault
only_once k again None = Err (UnknownColumn k)
only_once k again (Some width) = if again then Err (ColumnTwice k) else Ok width

-- the columns in order, after those with the earlier names
unfoldable pub columns : Ports → List Text → List Text → Result (List (Option ℕ)) TableFault
columns p earlier [] = Ok []
columns p earlier (t ∷ ts) =
    and_then (only_once (length earlier) (list_any (bytes_eq t) earlier) (column p t)) (λ width.
    and_then (columns p (earlier ++ t ∷ []) ts) (λ widths.
    Ok (width ∷ widths)))

-- the column of a port
abbrev pub place : Ports → List Text → Port → Option ℕ
place p names x = if is_unread p x.name then None else number_of x.name (numbered 0 names)

abbrev pub given : ℕ → Option ℕ → Result ℕ TableFault
given id None = Err (MissingInput id)
given id (Some k) = Ok k

-- each input has a column
unfoldable pub input_places : Ports → List Text → List Port → Result (List ℕ) TableFault
input_places p names [] = Ok []
input_places p names (x ∷ xs) =
    and_then (given x.id (place p names x)) (λ k.
    and_then (input_places p names xs) (λ ks.
    Ok (k ∷ ks)))

-- the columns by their numbers of bits, and the columns of inputs and outputs
pub record Header : Type 0 where
  pub widths : List (Option ℕ)
  pub inputs : List ℕ
  pub outputs : List (Option ℕ)

abbrev pub header_of_names : Ports → List Text → Result Header TableFault
header_of_names p names =
    and_then (columns p [] names) (λ widths.
    and_then (input_places p names p.inputs) (λ inputs.
    Ok (record { widths = widths; inputs = inputs; outputs = map (place p names) p.outputs })))

abbrev pub header : Ports → List Text → Result Header TableFault
header p fields = header_of_names p (map trimmed fields)
