-- What the run of a design on a table gives, and why there is none (IEEE 1364-2005 sections 9, 11 and 12).
use Rattle.std.specs.Prelude.{ℕ, ◌≡◌, ◌⊎◌, Bool, List, Option}
use Rattle.rr_lex.specs.Tokens.{Lexeme, IsFirstFault}
use Rattle.rr_lex.specs.declared.piece.Wrong.TheVariants as wrong
use Rattle.rr_flat.specs.Signals.{Text}
use Rattle.rr_flat.specs.declared.fault.FlatFault.TheVariants as flat
use Rattle.rr_flat.specs.Lawful.{Lawful}
use Rattle.rr_flat.specs.Clocks.{OneClock}
use Rattle.rr_flat.specs.Plain.{Flat}
use Rattle.rr_flat.specs.Ordered.{Ordered}
use Rattle.rr_flat.specs.View.{Design, plain_flat}
use Rattle.rr_flat.specs.declared.design.Order.{Order}
use Rattle.rr_elaborate.specs.Designs.{IsDesign, IsFlawed, IsUnparsed, IsUnsupported, start_of}
use Rattle.rr_lawful.specs.Checked.{FailsFirst}
use Rattle.rr_lawful.specs.declared.laws.LawFault.{LawFault}
use Rattle.rr_lawful.specs.declared.laws.LawFault.TheVariants as law
use Rattle.rr_trace.specs.Tables.{Table}
use Rattle.rr_trace.specs.Tops.{ports_of}
use Rattle.rr_trace.specs.Written.{table_text}
use Rattle.rr_cycle.specs.Cycles.{Run}
use Rattle.rr_run.specs.declared.fault.Fault.{Fault}
use Rattle.rr_run.specs.declared.fault.Fault.TheVariants as fault
use Rattle.rr_run.specs.Refusals.{Refusal, At, TooMany, Expanded, NoHeader, UnknownColumn, ColumnTwice, MissingInput, RowLength, BadCell, CellTooLarge, NotUtf8, BadVcd, NoScope}
use Rattle.rr_run.specs.Rows.{ReadsTable, RefusesTable}
use Rattle.rr_run.specs.declared.rows.TableKind.{TableKind}

-- an order of the steps of a design that is lawful with this word
abbrev pub InOrder : Design → Order → Option Text → Type 0
InOrder flat order word = Lawful (plain_flat flat) word × Ordered (plain_flat flat) word order.clock order.rising order.steps.items

-- the bytes are a text with these tokens and this flat design, lawful with the word for the clock, which is this one
pub record IsLawfulDesign (bytes : List ℕ) (top word : Option Text) (tokens : List Lexeme) (flat : Flat) (clock : Option ℕ) (rising : Bool) : Type 0 where
  pub design : IsDesign bytes tokens top flat
  pub lawful : Lawful flat word
  pub one_clock : OneClock flat word clock rising

-- the text of the rows of a table with the outputs of the run on them
pub record GivesText (flat : Flat) (clock : Option ℕ) (rows : Table) (text : List ℕ) : Type 0 where
  pub outputs : List (List ℕ)
  pub run : Run flat clock rows.inputs outputs
  pub printed : text ≡ table_text (ports_of flat clock) rows.inputs outputs

-- the table of a text with the outputs of the run on its rows, which are those of a table of this kind
pub record IsRun (kind : TableKind) (bytes table : List ℕ) (top word : Option Text) (text : List ℕ) : Type 0 where
  pub tokens : List Lexeme
  pub flat : Flat
  pub clock : Option ℕ
  pub rising : Bool
  pub design : IsLawfulDesign bytes top word tokens flat clock rising
  pub rows : Table
  pub read : ReadsTable kind flat clock rising table rows
  pub gives : GivesText flat clock rows text

-- which law, and the token at which it is told
abbrev pub Told : LawFault → Fault → ℕ → Type 0
Told (law.UnknownName t) what at = (what ≡ fault.UnknownName) × (at ≡ t)
Told (law.TwoDrivers bit first second) what at = (what ≡ fault.TwoDrivers) × (at ≡ second)
Told (law.WrongAssign t) what at = (what ≡ fault.WrongAssign) × (at ≡ t)
Told (law.Race t) what at = (what ≡ fault.Race) × (at ≡ t)
Told (law.Latch bit block) what at = (what ≡ fault.Latch) × (at ≡ block)
Told (law.Loop cycle token) what at = (what ≡ fault.Loop) × (at ≡ token)
Told (law.ClockUse t) what at = (what ≡ fault.ClockUse) × (at ≡ t)
Told (law.TwoClocks t) what at = (what ≡ fault.TwoClocks) × (at ≡ t)
Told (law.BadTarget t) what at = (what ≡ fault.BadTarget) × (at ≡ t)
Told (law.WildLabel t) what at = (what ≡ fault.WildLabel) × (at ≡ t)
Told law.Memory what at = ⊥

-- the design breaks this law first, at the token that begins at this byte
pub record IsBroken (bytes : List ℕ) (top word : Option Text) (what : Fault) (at : ℕ) : Type 0 where
  pub tokens : List Lexeme
  pub flat : Flat
  pub design : IsDesign bytes tokens top flat
  pub found : LawFault
  pub first : FailsFirst flat word found
  pub token : ℕ
  pub told : Told found what token
  pub place : at ≡ start_of tokens token

-- What is wrong with a design first, and at which byte: the first fault of its bytes, its first word without a rule, that
-- it has no tree, the first fault of its elaboration, or the first law that it breaks. Which byte is told of a text
-- without a tree is not said. No text has a fault of directives that are expanded, or of what they hide: those are of files.
abbrev pub IsAt : List ℕ → Option Text → Option Text → Fault → ℕ → Type 0
IsAt bytes top word fault.BadByte at = IsFirstFault bytes wrong.Byte at
IsAt bytes top word fault.BadNumber at = IsFirstFault bytes wrong.Number at
IsAt bytes top word fault.OpenComment at = IsFirstFault bytes wrong.Comment at
IsAt bytes top word fault.Directive at = IsFirstFault bytes wrong.Directive at
IsAt bytes top word fault.Unsupported at = IsUnsupported bytes at
IsAt bytes top word fault.Syntax at = IsUnparsed bytes
IsAt bytes top word fault.NoTop at = IsFlawed bytes top flat.NoTop × (at ≡ 0)
IsAt bytes top word fault.UnknownModule at = IsFlawed bytes top (flat.UnknownModule at)
IsAt bytes top word fault.SelfInstance at = IsFlawed bytes top (flat.SelfInstance at)
IsAt bytes top word fault.NameTwice at = IsFlawed bytes top (flat.NameTwice at)
IsAt bytes top word fault.UnknownName at = IsFlawed bytes top (flat.UnknownName at) ⊎ IsBroken bytes top word fault.UnknownName at
IsAt bytes top word fault.BadRange at = IsFlawed bytes top (flat.BadRange at)
IsAt bytes top word fault.NotConstant at = IsFlawed bytes top (flat.NotConstant at)
IsAt bytes top word fault.PortMismatch at = IsFlawed bytes top (flat.PortMismatch at)
IsAt bytes top word fault.TooWide at = (width : ℕ) × IsFlawed bytes top (flat.TooWide at width)
IsAt bytes top word fault.TwoDrivers at = IsBroken bytes top word fault.TwoDrivers at
IsAt bytes top word fault.WrongAssign at = IsBroken bytes top word fault.WrongAssign at
IsAt bytes top word fault.Race at = IsBroken bytes top word fault.Race at
IsAt bytes top word fault.Latch at = IsBroken bytes top word fault.Latch at
IsAt bytes top word fault.Loop at = IsBroken bytes top word fault.Loop at
IsAt bytes top word fault.ClockUse at = IsBroken bytes top word fault.ClockUse at
IsAt bytes top word fault.TwoClocks at = IsBroken bytes top word fault.TwoClocks at
IsAt bytes top word fault.BadTarget at = IsBroken bytes top word fault.BadTarget at
IsAt bytes top word fault.WildLabel at = IsBroken bytes top word fault.WildLabel at
IsAt bytes top word fault.BadLoop at = IsFlawed bytes top (flat.BadLoop at)
IsAt bytes top word fault.UnknownMacro at = ⊥
IsAt bytes top word fault.BadDirective at = ⊥
IsAt bytes top word fault.MacroLoop at = ⊥
IsAt bytes top word fault.FromMacro at = ⊥

-- why a text has no lawful design
abbrev pub RefusesDesign : List ℕ → Option Text → Option Text → Refusal → Type 0
RefusesDesign bytes top word (At what at) = IsAt bytes top word what at
RefusesDesign bytes top word (TooMany limit count) = IsFlawed bytes top (flat.TooMany limit count)
RefusesDesign bytes top word (Expanded count) = ⊥
RefusesDesign bytes top word NoHeader = ⊥
RefusesDesign bytes top word (UnknownColumn column) = ⊥
RefusesDesign bytes top word (ColumnTwice column) = ⊥
RefusesDesign bytes top word (MissingInput name) = ⊥
RefusesDesign bytes top word (RowLength row) = ⊥
RefusesDesign bytes top word (BadCell row column) = ⊥
RefusesDesign bytes top word (CellTooLarge row column) = ⊥
RefusesDesign bytes top word NotUtf8 = ⊥
RefusesDesign bytes top word (BadVcd line) = ⊥
RefusesDesign bytes top word NoScope = ⊥

-- the design is lawful, and the table of this kind is none for its ports, for this reason
pub record HasNoTable (kind : TableKind) (bytes table : List ℕ) (top word : Option Text) (refusal : Refusal) : Type 0 where
  pub tokens : List Lexeme
  pub flat : Flat
  pub clock : Option ℕ
  pub rising : Bool
  pub design : IsLawfulDesign bytes top word tokens flat clock rising
  pub refused : RefusesTable kind flat clock rising table refusal

-- why two texts have no run: of the design first
abbrev pub Refuses : TableKind → List ℕ → List ℕ → Option Text → Option Text → Refusal → Type 0
Refuses kind bytes table top word refusal = RefusesDesign bytes top word refusal ⊎ HasNoTable kind bytes table top word refusal

-- the same refusal; of a text without a tree the byte may differ
abbrev pub IsSameRefusal : Refusal → Refusal → Type 0
IsSameRefusal a b = (a ≡ b) ⊎ ((i : ℕ) × ((j : ℕ) × ((a ≡ At fault.Syntax i) × (b ≡ At fault.Syntax j))))
