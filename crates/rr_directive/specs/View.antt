-- What the code's units, names, texts, conditionals and output stand for.
use Rattle.std.specs.Prelude.{◌≡◌, ℕ, nat_lt, nat_le, ◌-◌, ◌+◌, ◌<◌, ◌≤◌, ◌++◌, ◌⊎◌, ◌≢◌, List, [], ◌∷◌, take, drop, map, length, reverse, get_or, slice_get, ◌==◌, Bool, true, false, Option, Some, None, Result, Ok, Err, if◌then◌else◌}
use Rattle.std.specs.List.{AllZip}
use Rattle.rr_directive.specs.declared.fault.Wrong.{Wrong}
use Rattle.rr_directive.specs.declared.fault.Wrong.TheVariants as wrong
use Rattle.rr_directive.specs.declared.fault.DirectiveFault.{DirectiveFault}
use Rattle.rr_directive.specs.declared.fault.DirectiveFault.TheVariants as fault
use Rattle.rr_directive.specs.declared.output.Stop.{Stop}
use Rattle.rr_directive.specs.declared.output.Stop.TheVariants as stop
use Rattle.rr_directive.specs.declared.output.Output.{Output}
use Rattle.rr_directive.specs.declared.piece.Piece.{Piece}
use Rattle.rr_directive.specs.declared.definitions.Part.{Part}
use Rattle.rr_directive.specs.declared.definitions.Part.TheVariants as part
use Rattle.rr_directive.specs.declared.definitions.Definitions.{Definitions}
use Rattle.rr_directive.specs.declared.using.Frame.{Frame}
use Rattle.rr_directive.specs.declared.reading.Branch.{Branch as CodeBranch}
use Rattle.rr_directive.specs.declared.reading.Reader.{Reader}
use Rattle.rr_directive.specs.Bytes.{begins, is_letter}
use Rattle.rr_directive.specs.Pieces as pieces
use Rattle.rr_directive.specs.Pieces.{joined, TextUnit, units_of}
use Rattle.rr_directive.specs.Expand.{Item, Byte, Use, Definition, Step, Gives, Uses, Halt, Whole, Failed, Cut, Reads, Branch, State, Event, Meets, ReadsAll, IsOver, IsWrong, start, first_unclosed, bytes_of, origins_of, has_directive, text_items, text_of, is_expanding, stands_for, from_use}
use denote.Ref.{Bor}

-- ---- units

abbrev pub plain_piece : List ℕ → ℕ → Piece → pieces.Piece
plain_piece bytes at p = record {
  kind = p.kind;
  name = take (p.name_end - p.name) (drop p.name bytes);
  bracket = p.bracket;
  text = joined 0 (take (p.end - p.text) (drop p.text bytes));
  size = p.end - at;
}

-- its parts lie in the bytes, one behind the other, and its name, where it has one, begins with a letter
pub record IsIn (bytes : List ℕ) (at : ℕ) (p : Piece) : Type 0 where
  pub name : p.name ≤ p.name_end
  pub name_end : p.name_end ≤ length bytes
  pub letter : begins is_letter (take (p.name_end - p.name) (drop p.name bytes)) ≡ nat_lt p.name p.name_end
  pub text : p.text ≤ p.end
  pub some : at < p.end
  pub within : p.end ≤ length bytes

abbrev pub unit_at : List ℕ → ℕ → Piece → TextUnit
unit_at bytes at p = record { at = at; piece = plain_piece bytes at p; bytes = take (p.end - at) (drop at bytes) }

-- ---- output

-- the output has what these events give, and room for the rest of 1,048,576
pub record Shows (out : Output) (events : List Event) : Type 0 where
  pub text : out.text.items ≡ bytes_of events
  pub origins : out.origins.items ≡ origins_of events
  pub left : out.left + length events ≡ 1048576

-- giving so many more events fails only where there is no room, or for want of memory
abbrev pub Overflows : {T : Type 0} → ℕ → ℕ → Result T Stop → Type 0
Overflows left n (Ok x) = Unit {0}
Overflows left n (Err (stop.Wrong w)) = ⊥
Overflows left n (Err stop.Full) = left < n
Overflows left n (Err stop.Memory) = Unit {0}

-- bytes that stand from a place on, of which those from `exact` on are exact
unfoldable pub exact_from : ℕ → ℕ → List ℕ → List Event
exact_from exact at [] = []
exact_from exact at (b ∷ bs) = record { step = Gives b; origin = record { offset = at; exact = nat_le exact at } } ∷ exact_from exact (at + 1) bs

-- ---- names and texts

abbrev pub names_of : Definitions → List (List ℕ)
names_of d = map (λ k. k.now) d.names.keys

-- one list goes on with the other
pub record Extends (names more : List (List ℕ)) : Type 0 where
  pub new : List (List ℕ)
  pub is : more ≡ names ++ new

abbrev pub IsItem : List (List ℕ) → Part → Item → Type 0
IsItem names (part.Byte b) (Byte c) = b ≡ c
IsItem names (part.Byte b) (Use name) = ⊥
IsItem names (part.Use number) (Byte c) = ⊥
IsItem names (part.Use number) (Use name) = slice_get names number ≡ Some name

abbrev pub AreItems : List (List ℕ) → List Part → List Item → Type 0
AreItems names parts items = AllZip (IsItem names) parts items

abbrev pub IsText : List (List ℕ) → Option (Bor (List Part)) → Option (List Item) → Type 0
IsText names None None = Unit {0}
IsText names None (Some items) = ⊥
IsText names (Some parts) None = ⊥
IsText names (Some parts) (Some items) = AreItems names parts.now items

-- what a text asks for, where it holds no directive
abbrev pub IsPlainText : List (List ℕ) → List ℕ → Option (Bor (List Part)) → Type 0
IsPlainText names text None = has_directive text ≡ true
IsPlainText names text (Some parts) = (has_directive text ≡ false) × AreItems names parts.now (text_items text)

-- each name has one number, under which its text stands
pub record HasTexts (names : List (List ℕ)) (texts : List (Option (Bor (List Part)))) (ds : List Definition) : Type 0 where
  pub distinct : (i j : ℕ) (name : List ℕ) → slice_get names i ≡ Some name → slice_get names j ≡ Some name → i ≡ j
  pub same : length texts ≡ length names
  pub each : (i : ℕ) (name : List ℕ) → slice_get names i ≡ Some name → IsText names (get_or texts i None) (text_of name ds)
  pub others : (name : List ℕ) → (text_of name ds ≡ None) ⊎ ((i : ℕ) × (slice_get names i ≡ Some name))

-- no name is twice among these
abbrev pub Once : List (List ℕ) → Type 0
Once [] = Unit {0}
Once (n ∷ ns) = (is_expanding ns n ≡ false) × Once ns

-- the texts that are being read are those with the flag
pub record Opens (names : List (List ℕ)) (flags : List Bool) (expanding : List (List ℕ)) : Type 0 where
  pub same : length flags ≡ length names
  pub once : Once expanding
  pub set : (i : ℕ) (name : List ℕ) → slice_get names i ≡ Some name → get_or flags i false ≡ is_expanding expanding name

-- and no text is being read
pub record Knows (d : Definitions) (ds : List Definition) : Type 0 where
  pub has : HasTexts (names_of d) d.texts.items ds
  pub closed : Opens (names_of d) d.flags.items []

-- ---- texts that are being read

-- the name of a text, and what is left of it
pub record Left : Type 0 where
  pub name : List ℕ
  pub rest : List Item

abbrev pub IsLeft : List (List ℕ) → Frame → Left → Type 0
IsLeft names f l = (slice_get names f.name ≡ Some l.name) × AreItems names f.rest.now l.rest

-- the innermost first
abbrev pub AreLeft : List (List ℕ) → List Frame → List Left → Type 0
AreLeft names fs ls = AllZip (IsLeft names) (reverse fs) ls

abbrev pub left_names : List Left → List (List ℕ)
left_names ls = map (λ l. l.name) ls

-- reading the rest of these texts, the innermost first, meets these steps
pub data ReadsOn (ds : List Definition) : List Left → List Step → Halt → Type 0 where
  ended : ReadsOn ds [] [] Whole
  halted : (l : Left) (ls : List Left) (steps : List Step) (halt : Halt) →
      halt ≢ Whole → Reads ds (l.name ∷ left_names ls) l.rest steps halt → ReadsOn ds (l ∷ ls) steps halt
  passed : (l : Left) (ls : List Left) (inner steps : List Step) (halt : Halt) →
      Reads ds (l.name ∷ left_names ls) l.rest inner Whole → ReadsOn ds ls steps halt → ReadsOn ds (l ∷ ls) (inner ++ steps) halt

-- what the beginning of the text of a name answers, after these events, where these texts are being read
pub record Begun (names : List (List ℕ)) (ds : List Definition) (name : List ℕ) (ls : List Left) (events : List Event) (at : ℕ) (flags : List Bool) (frames : List Frame) (out : Output) : Type 0 where
  pub text : List Item
  pub defined : text_of name ds ≡ Some text
  pub fresh : is_expanding (left_names ls) name ≡ false
  pub shows : Shows out (events ++ (stands_for at Uses ∷ []))
  pub stack : AreLeft names frames (record { name = name; rest = text } ∷ ls)
  pub opens : Opens names flags (name ∷ left_names ls)

pub data IsUnfit (ds : List Definition) (name : List ℕ) (ls : List Left) : Wrong → Type 0 where
  undefined : text_of name ds ≡ None → IsUnfit ds name ls wrong.Unknown
  within : (text : List Item) → text_of name ds ≡ Some text → is_expanding (left_names ls) name ≡ true → IsUnfit ds name ls wrong.Loop

abbrev pub Begins : {T : Type 0} → List (List ℕ) → List Definition → List ℕ → List Left → List Event → ℕ → List Bool → List Frame → Output → Result T Stop → Type 0
Begins names ds name ls events at flags frames out (Ok x) = Begun names ds name ls events at flags frames out
Begins names ds name ls events at flags frames out (Err (stop.Wrong w)) = IsUnfit ds name ls w × (length events + 1 ≤ 1048576)
Begins names ds name ls events at flags frames out (Err stop.Full) = 1048576 < length events + 1
Begins names ds name ls events at flags frames out (Err stop.Memory) = Unit {0}

-- after these steps the texts on the right are left of those on the left
abbrev pub Leads : List Definition → List Left → List Step → List Left → Type 0
Leads ds ls gone ms = (steps : List Step) (halt : Halt) → ReadsOn ds ms steps halt → ReadsOn ds ls (gone ++ steps) halt

-- what one step of the reading of texts answers, after these events
pub record Goes (names : List (List ℕ)) (ds : List Definition) (ls : List Left) (events : List Event) (at : ℕ) (flags : List Bool) (frames : List Frame) (out : Output) : Type 0 where
  pub steps : List Step
  pub left : List Left
  pub shows : Shows out (events ++ from_use at steps)
  pub stack : AreLeft names frames left
  pub opens : Opens names flags (left_names left)
  pub leads : Leads ds ls steps left

pub record Fails (ds : List Definition) (ls : List Left) (met : ℕ) (w : Wrong) : Type 0 where
  pub steps : List Step
  pub reads : ReadsOn ds ls steps (Failed w)
  pub few : met + length steps ≤ 1048576

pub record Passes (ds : List Definition) (ls : List Left) (met : ℕ) : Type 0 where
  pub steps : List Step
  pub reads : ReadsOn ds ls steps Cut
  pub many : 1048576 < met + length steps

abbrev pub Advances : {T : Type 0} → List (List ℕ) → List Definition → List Left → List Event → ℕ → List Bool → List Frame → Output → Result T Stop → Type 0
Advances names ds ls events at flags frames out (Ok x) = Goes names ds ls events at flags frames out
Advances names ds ls events at flags frames out (Err (stop.Wrong w)) = Fails ds ls (length events) w
Advances names ds ls events at flags frames out (Err stop.Full) = Passes ds ls (length events)
Advances names ds ls events at flags frames out (Err stop.Memory) = Unit {0}

-- what the use of a name answers, after these events
pub record UseGives (names : List (List ℕ)) (ds : List Definition) (name : List ℕ) (events : List Event) (at : ℕ) (flags : List Bool) (out : Output) : Type 0 where
  pub steps : List Step
  pub reads : Reads ds [] (Use name ∷ []) steps Whole
  pub shows : Shows out (events ++ from_use at steps)
  pub opens : Opens names flags []

pub record UseFails (ds : List Definition) (name : List ℕ) (met : ℕ) (w : Wrong) : Type 0 where
  pub steps : List Step
  pub reads : Reads ds [] (Use name ∷ []) steps (Failed w)
  pub few : met + length steps ≤ 1048576

pub record UsePasses (ds : List Definition) (name : List ℕ) (met : ℕ) : Type 0 where
  pub steps : List Step
  pub reads : Reads ds [] (Use name ∷ []) steps Cut
  pub many : 1048576 < met + length steps

abbrev pub UseAnswers : {T : Type 0} → List (List ℕ) → List Definition → List ℕ → List Event → ℕ → List Bool → Output → Result T Stop → Type 0
UseAnswers names ds name events at flags out (Ok x) = UseGives names ds name events at flags out
UseAnswers names ds name events at flags out (Err (stop.Wrong w)) = UseFails ds name (length events) w
UseAnswers names ds name events at flags out (Err stop.Full) = UsePasses ds name (length events)
UseAnswers names ds name events at flags out (Err stop.Memory) = Unit {0}

-- ---- units of the file

abbrev pub plain_branch : CodeBranch → Branch
plain_branch b = record { on = b.on; other = b.other; last = b.last }

abbrev pub plain_branches : List CodeBranch → List Branch
plain_branches bs = map plain_branch (reverse bs)

-- the reader stands in this state, after these events
pub record Stands (r : Reader) (s : State) (events : List Event) : Type 0 where
  pub knows : Knows r.definitions s.definitions
  pub branches : plain_branches r.branches.items ≡ s.branches
  pub shows : Shows r.out events

pub record Gave (s : State) (u : TextUnit) (events : List Event) (r : Reader) : Type 0 where
  pub more : List Event
  pub state : State
  pub meets : Meets s u more state
  pub stands : Stands r state (events ++ more)

-- what reading a unit answers, after these events
abbrev pub Answers : {T : Type 0} → List ℕ → State → TextUnit → List Event → Reader → Result T Stop → Type 0
Answers bytes s u events r (Ok x) = Gave s u events r
Answers bytes s u events r (Err (stop.Wrong w)) = IsWrong bytes u s (length events) w
Answers bytes s u events r (Err stop.Full) = IsOver u s (length events)
Answers bytes s u events r (Err stop.Memory) = Unit {0}

-- a blank for a directive, where such are read
abbrev pub blanks : Bool → ℕ → List Event
blanks on at = if on then stands_for at (Gives 32) ∷ [] else []

abbrev pub Blanks : {T : Type 0} → Bool → ℕ → State → List Event → Reader → Result T Stop → Type 0
Blanks on at s events r (Ok x) = Stands r s (events ++ blanks on at)
Blanks on at s events r (Err (stop.Wrong w)) = ⊥
Blanks on at s events r (Err stop.Full) = 1048576 < length events + length (blanks on at)
Blanks on at s events r (Err stop.Memory) = Unit {0}

-- ---- the file

-- the reader has read the file, of which each opening has its end
pub record ReadsWhole (bytes : List ℕ) (r : Reader) : Type 0 where
  pub events : List Event
  pub state : State
  pub reads : ReadsAll start (units_of bytes) events state
  pub closed : first_unclosed (units_of bytes) ≡ None
  pub stands : Stands r state events

abbrev pub fault_of : Stop → ℕ → DirectiveFault
fault_of (stop.Wrong wrong.Unknown) at = fault.UnknownMacro at
fault_of (stop.Wrong wrong.Bad) at = fault.BadDirective at
fault_of (stop.Wrong wrong.Loop) at = fault.MacroLoop at
fault_of stop.Full at = fault.TooMany 1048577
fault_of stop.Memory at = fault.Memory

abbrev pub is_place : Option ℕ → ℕ → Bool
is_place None at = false
is_place (Some place) at = place == at
