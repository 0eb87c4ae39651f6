-- One construct at the head of words, by its first word: what it declares or tells with the words behind it, or the line
-- at which it breaks the form, or that of its first word where it has no end.
use Rattle.std.specs.Prelude.{ℕ, List, [], ◌∷◌, length, codes, Bool, ◌&&◌, ◌||◌, ◌==◌, nat_lt, Option, Some, None, if◌then◌else◌}
use Rattle.std.specs.List.{list_all}
use Rattle.std.specs.Str.{bytes_eq}
use Rattle.rr_vcd_text.specs.Words.{Word, is_end}
use Rattle.rr_vcd_text.specs.Numbers.{number}
use Rattle.rr_vcd_text.specs.Dump.{Declared, Variable, Told, Nothing, Moment, Change, Off, with_scope, without_scope, with_variable, is_value, is_later}
use Rattle.rr_vcd_text.specs.Rooms.{is_within, room_of, some_room}
use Rattle.rr_vcd_text.specs.declared.head.Opening.{Opening}
use Rattle.rr_vcd_text.specs.declared.head.Opening.TheVariants as word

pub data Step : Type 0 where
  Empty : Step
  Further : Declared → List Word → Step
  Ended : List Word → Step
  Found : Told → List Word → Step
  Broken : ℕ → Step
  Unended : ℕ → Step

-- the words behind the first `$end`
unfoldable pub past_end : List Word → Option (List Word)
past_end [] = None
past_end (w ∷ ws) = if is_end w then Some ws else past_end ws

-- the head

abbrev pub is_remark : List ℕ → Bool
is_remark text = bytes_eq text (codes "$comment") || (bytes_eq text (codes "$date") || (bytes_eq text (codes "$version") || bytes_eq text (codes "$timescale")))

abbrev pub opening : List ℕ → Opening
opening text =
    if bytes_eq text (codes "$var") then word.Variable else
    if bytes_eq text (codes "$scope") then word.Scope else
    if bytes_eq text (codes "$upscope") then word.Upscope else
    if bytes_eq text (codes "$enddefinitions") then word.End else
    if is_remark text then word.Remark else word.Other

abbrev pub further_or : ℕ → Declared → Option (List Word) → Step
further_or line d None = Unended line
further_or line d (Some ws) = Further d ws

abbrev pub ended_or : ℕ → Option (List Word) → Step
ended_or line None = Unended line
ended_or line (Some ws) = Ended ws

-- the next word is `$end`
abbrev pub closed : Declared → ℕ → List Word → Step
closed d line [] = Unended line
closed d line (w ∷ ws) = if is_end w then Further d ws else Broken w.line

abbrev pub scope_step : Declared → ℕ → List Word → Step
scope_step d line [] = Unended line
scope_step d line (kind ∷ []) = Unended line
scope_step d line (kind ∷ (name ∷ ws)) = closed (with_scope d) line ws

abbrev pub upscope_step : Declared → ℕ → List Word → Step
upscope_step d line ws = if nat_lt 0 (length d.opened) then closed (without_scope d) line ws else Broken line

abbrev pub named_step : Declared → ℕ → ℕ → List Word → Step
named_step d line n [] = Unended line
named_step d line n (id ∷ []) = Unended line
named_step d line n (id ∷ (name ∷ ws)) = further_or line (with_variable d id.text n name.text) (past_end ws)

abbrev pub sized_step : Declared → ℕ → ℕ → List Word → Option ℕ → Step
sized_step d line at ws None = Broken at
sized_step d line at ws (Some n) = named_step d line n ws

abbrev pub variable_step : Declared → ℕ → List Word → Step
variable_step d line [] = Unended line
variable_step d line (kind ∷ []) = Unended line
variable_step d line (kind ∷ (size ∷ ws)) = sized_step d line size.line ws (number size.text)

abbrev pub opened_step : Declared → Opening → ℕ → List Word → Step
opened_step d word.Remark line ws = further_or line d (past_end ws)
opened_step d word.Scope line ws = scope_step d line ws
opened_step d word.Upscope line ws = upscope_step d line ws
opened_step d word.Variable line ws = variable_step d line ws
opened_step d word.End line ws = ended_or line (past_end ws)
opened_step d word.Other line ws = Broken line

abbrev pub declare : Declared → List Word → Step
declare d [] = Empty
declare d (w ∷ ws) = opened_step d (opening w.text) w.line ws

-- the body

-- what a first word begins: a construct that it is whole, a comment, a change of the identifier behind it, another change,
-- or none
pub data Begin : Type 0 where
  Whole : Told → Begin
  Remark : Begin
  Vector : List ℕ → Begin
  Other : Begin
  Bad : Begin

abbrev pub is_section : List ℕ → Bool
is_section text = bytes_eq text (codes "$dumpvars") || (bytes_eq text (codes "$dumpall") || (bytes_eq text (codes "$dumpon") || bytes_eq text (codes "$end")))

abbrev pub keyword : List ℕ → Begin
keyword text =
    if is_section text then Whole Nothing else
    if bytes_eq text (codes "$comment") then Remark else
    if bytes_eq text (codes "$dumpoff") then Whole Off else Bad

abbrev pub moment_at : Option ℕ → Option ℕ → Begin
moment_at last None = Bad
moment_at last (Some n) = if is_later last n then Whole (Moment n) else Bad

abbrev pub scalar : List Variable → ℕ → List ℕ → Begin
scalar vs b id = if is_within (room_of vs id) 1 then Whole (Change id (b ∷ [])) else Bad

abbrev pub vector : List Variable → List ℕ → Begin
vector vs [] = Bad
vector vs (b ∷ bs) = if list_all is_value (b ∷ bs) && some_room vs (length (b ∷ bs)) then Vector (b ∷ bs) else Bad

abbrev pub other : List Variable → Begin
other vs = if some_room vs 0 then Other else Bad

abbrev pub begin : List Variable → Option ℕ → List ℕ → Begin
begin vs last [] = Bad
begin vs last (b ∷ bs) =
    if is_value b then scalar vs b bs else
    if b == 98 || b == 66 then vector vs bs else
    if b == 35 then moment_at last (number bs) else
    if b == 36 then keyword (b ∷ bs) else
    if b == 114 || (b == 82 || b == 115) then other vs else Bad

abbrev pub found_or : ℕ → Option (List Word) → Step
found_or line None = Unended line
found_or line (Some ws) = Found Nothing ws

-- the next word is an identifier with room for so many digits
abbrev pub named : List Variable → ℕ → ℕ → (List ℕ → Told) → List Word → Step
named vs line digits told [] = Unended line
named vs line digits told (id ∷ ws) = if is_within (room_of vs id.text) digits then Found (told id.text) ws else Broken id.line

abbrev pub begun_step : List Variable → Begin → ℕ → List Word → Step
begun_step vs (Whole t) line ws = Found t ws
begun_step vs Remark line ws = found_or line (past_end ws)
begun_step vs (Vector digits) line ws = named vs line (length digits) (λ id. Change id digits) ws
begun_step vs Other line ws = named vs line 0 (λ id. Nothing) ws
begun_step vs Bad line ws = Broken line

abbrev pub tell : List Variable → Option ℕ → List Word → Step
tell vs last [] = Empty
tell vs last (w ∷ ws) = begun_step vs (begin vs last w.text) w.line ws
