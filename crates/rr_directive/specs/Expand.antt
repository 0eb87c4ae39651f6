-- The expansion of a file (IEEE 1364-2005 sections 19.3 and 19.4): what each of its units gives, and the first fault.
use Rattle.std.specs.Prelude.{ℕ, ◌+◌, ◌-◌, ◌≡◌, ◌≢◌, ◌<◌, ◌≤◌, List, [], ◌∷◌, ◌++◌, length, map, Bool, true, false, not, ◌&&◌, ◌||◌, ◌==◌, Option, Some, None, is_some, if◌then◌else◌}
use Rattle.std.specs.List.{All, list_any, flat_map}
use Rattle.std.specs.Str.{bytes_eq}
use Rattle.rr_directive.specs.declared.piece.Directive.TheVariants as directive
use Rattle.rr_directive.specs.declared.piece.Kind.{Kind}
use Rattle.rr_directive.specs.declared.piece.Kind.TheVariants as kind
use Rattle.rr_directive.specs.declared.fault.Wrong.{Wrong}
use Rattle.rr_directive.specs.declared.fault.Wrong.TheVariants as wrong
use Rattle.rr_directive.specs.declared.fault.DirectiveFault.{DirectiveFault}
use Rattle.rr_directive.specs.declared.fault.DirectiveFault.TheVariants as fault
use Rattle.rr_directive.specs.declared.origin.Origin.{Origin}
use Rattle.rr_directive.specs.Pieces.{Piece, TextUnit, units_of, has_name, directive_of}

-- ---- the texts of names

-- what a text asks for: a byte, or what a name stands for
pub data Item : Type 0 where
  Byte : ℕ → Item
  Use : List ℕ → Item

unfoldable pub items_of : Kind → TextUnit → List Item
items_of kind.Use u = Use u.piece.name ∷ []
items_of kind.Comment u = map Byte u.bytes
items_of kind.Escaped u = map Byte u.bytes
items_of kind.Plain u = map Byte u.bytes
items_of (kind.Named d) u = map Byte u.bytes

-- the items of a text, in its units
abbrev pub text_items : List ℕ → List Item
text_items text = flat_map (λ u. items_of u.piece.kind u) (units_of text)

-- a name with the text that it was given, or with none from an `undef on
pub record Definition : Type 0 where
  pub name : List ℕ
  pub text : Option (List Item)

-- the text of a name; the definitions are the newest first, and a later one replaces an earlier one
unfoldable pub text_of : List ℕ → List Definition → Option (List Item)
text_of name [] = None
text_of name (d ∷ ds) = if bytes_eq d.name name then d.text else text_of name ds

-- what reading a text meets, in its order: a byte that it gives, or a use
pub data Step : Type 0 where
  Gives : ℕ → Step
  Uses : Step

abbrev pub is_expanding : List (List ℕ) → List ℕ → Bool
is_expanding names name = list_any (λ n. bytes_eq n name) names

-- how a reading ends: at the end of the text, at a fault, or anywhere before
pub data Halt : Type 0 where
  Whole : Halt
  Failed : Wrong → Halt
  Cut : Halt

-- Reading a text while the texts of these names are being read meets these steps, up to its end, up to the first fault, or up to
-- some place. A use gives the text of its name, in which uses give theirs in the same way; all else gives its own bytes.
pub data Reads (ds : List Definition) : List (List ℕ) → List Item → List Step → Halt → Type 0 where
  ended : (names : List (List ℕ)) → Reads ds names [] [] Whole
  cut : (names : List (List ℕ)) (items : List Item) → Reads ds names items [] Cut
  cut_in_use : (names : List (List ℕ)) (name : List ℕ) (items : List Item) → Reads ds names (Use name ∷ items) (Uses ∷ []) Cut
  byte : (names : List (List ℕ)) (b : ℕ) (items : List Item) (steps : List Step) (halt : Halt) →
      Reads ds names items steps halt →
      Reads ds names (Byte b ∷ items) (Gives b ∷ steps) halt
  unknown : (names : List (List ℕ)) (name : List ℕ) (items : List Item) →
      text_of name ds ≡ None →
      Reads ds names (Use name ∷ items) (Uses ∷ []) (Failed wrong.Unknown)
  loops : (names : List (List ℕ)) (name : List ℕ) (items text : List Item) →
      text_of name ds ≡ Some text → is_expanding names name ≡ true →
      Reads ds names (Use name ∷ items) (Uses ∷ []) (Failed wrong.Loop)
  halts : (names : List (List ℕ)) (name : List ℕ) (items text : List Item) (steps : List Step) (halt : Halt) →
      text_of name ds ≡ Some text → is_expanding names name ≡ false → halt ≢ Whole →
      Reads ds (name ∷ names) text steps halt →
      Reads ds names (Use name ∷ items) (Uses ∷ steps) halt
  uses : (names : List (List ℕ)) (name : List ℕ) (items text : List Item) (inner steps : List Step) (halt : Halt) →
      text_of name ds ≡ Some text → is_expanding names name ≡ false →
      Reads ds (name ∷ names) text inner Whole →
      Reads ds names items steps halt →
      Reads ds names (Use name ∷ items) (Uses ∷ (inner ++ steps)) halt

-- ---- the units of the file

-- a conditional that is open: whether its bytes are read, whether those of its other branch are, and whether that one has begun
pub record Branch : Type 0 where
  pub on : Bool
  pub other : Bool
  pub last : Bool

-- the definitions, the newest first, and the open conditionals, the innermost first
pub record State : Type 0 where
  pub definitions : List Definition
  pub branches : List Branch

abbrev pub start : State
start = record { definitions = []; branches = [] }

-- whether bytes are read that stand in the innermost of these
unfoldable pub is_on : List Branch → Bool
is_on [] = true
is_on (b ∷ bs) = b.on

abbrev pub opened : Bool → List Branch → List Branch
opened holds bs = record { on = is_on bs && holds; other = is_on bs && not holds; last = false } ∷ bs

abbrev pub turned : Branch → Branch
turned b = record { on = b.other; other = b.on; last = true }

-- which bytes of a unit are exact: an edit may stand directly after such a byte, or replace it
pub data Exact : Type 0 where
  Each : Exact
  Last : Exact
  Nowhere : Exact

-- What a unit of the file does: it gives its own bytes, of which these are exact; one blank and this state; nothing and this
-- state; what its use gives; or it is a fault.
pub data Act : Type 0 where
  Own : Exact → Act
  Blank : State → Act
  Silent : State → Act
  Expands : Act
  Wrongs : Act

abbrev pub shown : Bool → State → Act
shown on s = if on then Blank s else Silent s

abbrev pub with_branches : State → List Branch → State
with_branches s bs = record s { branches = bs }

abbrev pub with_definition : State → List ℕ → Option (List Item) → State
with_definition s name text = record s { definitions = record { name = name; text = text } ∷ s.definitions }

unfoldable pub is_named : Kind → Bool
is_named kind.Use = false
is_named kind.Comment = false
is_named kind.Escaped = false
is_named kind.Plain = false
is_named (kind.Named d) = true

-- one of the units of a text is a directive
abbrev pub has_directive : List ℕ → Bool
has_directive text = list_any (λ u. is_named u.piece.kind) (units_of text)

-- a definition takes no arguments, is of no directive's name, and holds no directive
abbrev pub is_fit : Piece → Bool
is_fit p = has_name p && (not p.bracket && (not (is_some (directive_of p.name)) && not (has_directive p.text)))

abbrev pub is_defined : List ℕ → List Definition → Bool
is_defined name ds = is_some (text_of name ds)

abbrev pub opening : State → Piece → Bool → Act
opening s p holds = if has_name p then shown (is_on s.branches) (with_branches s (opened holds s.branches)) else Wrongs

-- `else of the innermost conditional, and `endif
unfoldable pub turning : State → List Branch → Act
turning s [] = Wrongs
turning s (b ∷ bs) = if b.last then Wrongs else shown (is_on bs) (with_branches s (turned b ∷ bs))

unfoldable pub closing : State → List Branch → Act
closing s [] = Wrongs
closing s (b ∷ bs) = shown (is_on bs) (with_branches s bs)

-- what stands in a branch that is not taken gives nothing; the conditionals in it are read all the same
abbrev pub where_read : State → Act → Act
where_read s a = if is_on s.branches then a else Silent s

unfoldable pub act_of : State → Piece → Kind → Act
act_of s p kind.Comment = where_read s (Own Nowhere)
act_of s p kind.Escaped = where_read s (Own Last)
act_of s p kind.Plain = where_read s (Own Each)
act_of s p kind.Use = where_read s Expands
act_of s p (kind.Named directive.Stays) = where_read s (Own Nowhere)
act_of s p (kind.Named directive.Define) = where_read s (if is_fit p then Blank (with_definition s p.name (Some (text_items p.text))) else Wrongs)
act_of s p (kind.Named directive.Undef) = where_read s (if has_name p then Blank (with_definition s p.name None) else Wrongs)
act_of s p (kind.Named directive.Ifdef) = opening s p (is_defined p.name s.definitions)
act_of s p (kind.Named directive.Ifndef) = opening s p (not (is_defined p.name s.definitions))
act_of s p (kind.Named directive.Else) = turning s s.branches
act_of s p (kind.Named directive.Endif) = closing s s.branches
act_of s p (kind.Named directive.Elsif) = Wrongs

abbrev pub act : State → TextUnit → Act
act s u = act_of s u.piece u.piece.kind

-- what reading the file meets: a byte with its origin, or a use
pub record Event : Type 0 where
  pub step : Step
  pub origin : Origin

abbrev pub origin : ℕ → Bool → Origin
origin at exact = record { offset = at; exact = exact }

unfoldable pub is_exact : Exact → List ℕ → Bool
is_exact Each after = true
is_exact Last [] = true
is_exact Last (b ∷ after) = false
is_exact Nowhere after = false

-- own bytes of a unit, which stand from a place on
unfoldable pub own : Exact → ℕ → List ℕ → List Event
own exact at [] = []
own exact at (b ∷ bs) = record { step = Gives b; origin = origin at (is_exact exact bs) } ∷ own exact (at + 1) bs

-- what stands for a unit at a place, and has no place of its own
abbrev pub stands_for : ℕ → Step → Event
stands_for at step = record { step = step; origin = origin at false }

abbrev pub from_use : ℕ → List Step → List Event
from_use at steps = map (stands_for at) steps

-- what reading the use of a name meets
abbrev pub ReadsUse : State → TextUnit → List Step → Halt → Type 0
ReadsUse s u steps halt = Reads s.definitions [] (Use u.piece.name ∷ []) steps halt

-- reading a unit in a state meets these events, and leaves this state
pub data Meets (s : State) (u : TextUnit) : List Event → State → Type 0 where
  own_bytes : (exact : Exact) → act s u ≡ Own exact → Meets s u (own exact u.at u.bytes) s
  one_blank : (t : State) → act s u ≡ Blank t → Meets s u (stands_for u.at (Gives 32) ∷ []) t
  nothing : (t : State) → act s u ≡ Silent t → Meets s u [] t
  whole_use : (steps : List Step) → act s u ≡ Expands → ReadsUse s u steps Whole → Meets s u (from_use u.at steps) s

-- and so does reading units in their order
pub data ReadsAll : State → List TextUnit → List Event → State → Type 0 where
  none : (s : State) → ReadsAll s [] [] s
  more : (s t r : State) (u : TextUnit) (us : List TextUnit) (events later : List Event) →
      Meets s u events t → ReadsAll t us later r → ReadsAll s (u ∷ us) (events ++ later) r

-- ---- openings without their `endif, whatever branches are taken

unfoldable pub is_opening : Kind → Bool
is_opening kind.Comment = false
is_opening kind.Escaped = false
is_opening kind.Plain = false
is_opening kind.Use = false
is_opening (kind.Named directive.Stays) = false
is_opening (kind.Named directive.Define) = false
is_opening (kind.Named directive.Undef) = false
is_opening (kind.Named directive.Ifdef) = true
is_opening (kind.Named directive.Ifndef) = true
is_opening (kind.Named directive.Else) = false
is_opening (kind.Named directive.Endif) = false
is_opening (kind.Named directive.Elsif) = false

unfoldable pub is_endif : Kind → Bool
is_endif kind.Comment = false
is_endif kind.Escaped = false
is_endif kind.Plain = false
is_endif kind.Use = false
is_endif (kind.Named directive.Stays) = false
is_endif (kind.Named directive.Define) = false
is_endif (kind.Named directive.Undef) = false
is_endif (kind.Named directive.Ifdef) = false
is_endif (kind.Named directive.Ifndef) = false
is_endif (kind.Named directive.Else) = false
is_endif (kind.Named directive.Endif) = true
is_endif (kind.Named directive.Elsif) = false

-- an `endif follows that belongs to none of the n openings which are open within, nor to one that comes before it
unfoldable pub closes : ℕ → List TextUnit → Bool
closes n [] = false
closes n (u ∷ us) =
    if is_opening u.piece.kind then closes (n + 1) us
    else (if is_endif u.piece.kind then n == 0 || closes (n - 1) us
    else closes n us)

-- the place of the first opening that is not closed
unfoldable pub first_unclosed : List TextUnit → Option ℕ
first_unclosed [] = None
first_unclosed (u ∷ us) = if is_opening u.piece.kind && not (closes 0 us) then Some u.at else first_unclosed us

-- ---- the whole file

abbrev pub bytes_given : Step → List ℕ
bytes_given (Gives b) = b ∷ []
bytes_given Uses = []

abbrev pub origins_given : Step → Origin → List Origin
origins_given (Gives b) o = o ∷ []
origins_given Uses o = []

unfoldable pub bytes_of : List Event → List ℕ
bytes_of [] = []
bytes_of (e ∷ es) = bytes_given e.step ++ bytes_of es

unfoldable pub origins_of : List Event → List Origin
origins_of [] = []
origins_of (e ∷ es) = origins_given e.step e.origin ++ origins_of es

-- The expansion: the bytes, with an origin for each.
pub record IsExpansion (bytes text : List ℕ) (origins : List Origin) : Type 0 where
  pub events : List Event
  pub end : State
  pub reads : ReadsAll start (units_of bytes) events end
  pub closed : first_unclosed (units_of bytes) ≡ None
  pub text_is : text ≡ bytes_of events
  pub origins_are : origins ≡ origins_of events

-- within the limit of 1,048,576 bytes and uses the file has this expansion
pub record IsTaken (bytes text : List ℕ) (origins : List Origin) : Type 0 where
  pub expansion : IsExpansion bytes text origins
  pub few : length expansion.events ≤ 1048576

-- a unit is not this opening, where there is one
abbrev pub IsNot : Option ℕ → TextUnit → Type 0
IsNot None u = Unit {0}
IsNot (Some place) u = u.at ≢ place

-- Reading comes to a unit of the file in a state, after so many bytes and uses within the limit, without a fault before: no unit
-- before it is the first opening without its `endif.
pub record Reaches (bytes : List ℕ) (u : TextUnit) (s : State) (met : ℕ) : Type 0 where
  pub front : List TextUnit
  pub behind : List TextUnit
  pub there : units_of bytes ≡ front ++ (u ∷ behind)
  pub events : List Event
  pub reads : ReadsAll start front events s
  pub counted : met ≡ length events
  pub few : met ≤ 1048576
  pub passed : All (IsNot (first_unclosed (units_of bytes))) front

-- What is wrong with a unit, of which reading meets no more than the limit: its form or its place, its use, or it is the first
-- opening without its `endif.
pub data IsWrong (bytes : List ℕ) (u : TextUnit) (s : State) (met : ℕ) : Wrong → Type 0 where
  bad : act s u ≡ Wrongs → IsWrong bytes u s met wrong.Bad
  bad_use : (steps : List Step) (w : Wrong) → act s u ≡ Expands → ReadsUse s u steps (Failed w) → met + length steps ≤ 1048576 → IsWrong bytes u s met w
  unclosed : (events : List Event) (t : State) → first_unclosed (units_of bytes) ≡ Some u.at → Meets s u events t → met + length events ≤ 1048576 → IsWrong bytes u s met wrong.Bad

-- reading a unit passes the limit
pub data IsOver (u : TextUnit) (s : State) (met : ℕ) : Type 0 where
  over : (events : List Event) (t : State) → Meets s u events t → 1048576 < met + length events → IsOver u s met
  over_in_use : (steps : List Step) → act s u ≡ Expands → ReadsUse s u steps Cut → 1048576 < met + length steps → IsOver u s met

-- the first fault in the order of the file; the limit has its place among the faults, at the unit with which bytes and uses first pass it
pub record IsFault (bytes : List ℕ) (w : Wrong) (at : ℕ) : Type 0 where
  pub unit : TextUnit
  pub state : State
  pub met : ℕ
  pub reaches : Reaches bytes unit state met
  pub wrong : IsWrong bytes unit state met w
  pub place : at ≡ unit.at

pub record IsTooMany (bytes : List ℕ) (count : ℕ) : Type 0 where
  pub unit : TextUnit
  pub state : State
  pub met : ℕ
  pub reaches : Reaches bytes unit state met
  pub over : IsOver unit state met
  pub told : count ≡ 1048577

abbrev pub Faults : List ℕ → DirectiveFault → Type 0
Faults bytes (fault.UnknownMacro at) = IsFault bytes wrong.Unknown at
Faults bytes (fault.BadDirective at) = IsFault bytes wrong.Bad at
Faults bytes (fault.MacroLoop at) = IsFault bytes wrong.Loop at
Faults bytes (fault.TooMany count) = IsTooMany bytes count
Faults bytes fault.Memory = Unit {0}
