-- The laws that a flat design keeps so that each cycle has one meaning: one clock that is used as a clock alone, one
-- writer a bit, no latch, no race and no combinational loop.
use Rattle.std.specs.Prelude.{ℕ, ◌+◌, ◌<◌, ◌≡◌, ◌⊎◌, List, [], ◌∷◌, length, Bool, true, false, not, cond, ◌&&◌, ◌==◌, Option, Some, None, get_or, IsTrue}
use Rattle.std.specs.List.{All}
use Rattle.rr_syntax.specs.declared.token.Number.{Number}
use Rattle.rr_syntax.specs.Expressions.{is_target}
use Rattle.rr_syntax.specs.Tree.{Tree, Trees, Name, Literal, Bit as BitSelect, Part, Indexed, Unary, Binary, Cond, Concat, Repeat, Cast, Paren, End, More, Identifier, Statement, Statements, Arm, Arms, Null, Block as Sequence, If, IfElse, Case, Assign, For, Done, Then, CaseItem, NoArms, MoreArms}
use Rattle.rr_syntax.specs.Words.{keyword_case, keyword_casez}
use Rattle.rr_expr.specs.declared.types.Bit.{Bit}
use Rattle.rr_expr.specs.declared.types.Entity.{Entity}
use Rattle.rr_expr.specs.declared.types.Entity.TheVariants.{Constant, Signal as SignalEntity, Memory, Instance}
use Rattle.rr_expr.specs.Scopes.{meant}
use Rattle.rr_flat.specs.declared.signal.Port.TheVariants.{Input}
use Rattle.rr_flat.specs.Signals.{Text, signal_at}
use Rattle.rr_flat.specs.Plain.{Side, Written, Whole, Driver, Block, Initial, Flat}
use Rattle.rr_flat.specs.Clocks.{IsInputNamed, IsBareName, NameLeads, OneClock}
use Rattle.rr_flat.specs.Latches.{NoLatch}
use Rattle.rr_flat.specs.Reads.{LiteralToken, Assigned, names_in, literals_in, names_of, names_read, assigned_by}
use Rattle.rr_flat.specs.Targets.{variable_of, is_memory, target_parts, part_name, is_indexed, is_fixed}
use Rattle.rr_flat.specs.Writers.{scope_at, driver_at, block_at, initial_at, entity_of_signal, Writer, Writes, BitNames}

-- 11: the word for the clock names a scalar input of the top
abbrev pub ClockNamed : Flat → Option Text → Type 0
ClockNamed flat None = Unit {0}
ClockNamed flat (Some name) = (id : ℕ) × IsInputNamed flat name id

-- 24, of a name or select: a continuous assignment drives a net by constant indices, a procedural one and an `initial` item
-- set a variable (sections 6.1, 9.2 and 9.9.1), and none an input port or a parameter; the words of a memory are variables
-- (section 4.9.3)
abbrev pub MayDrive : Flat → Entity → Bool → Type 0
MayDrive flat (Constant bits signed) fixed = ⊥
MayDrive flat (SignalEntity id range signed) fixed =
    ((signal_at flat.signals id).variable ≡ false) × ((signal_at flat.signals id).port ≡ Input → ⊥) × (fixed ≡ true)
MayDrive flat (Memory first low words range signed) fixed = ⊥
MayDrive flat Instance fixed = ⊥

abbrev pub MayAssign : Flat → Entity → Type 0
MayAssign flat (Constant bits signed) = ⊥
MayAssign flat (SignalEntity id range signed) = ((signal_at flat.signals id).variable ≡ true) × ((signal_at flat.signals id).port ≡ Input → ⊥)
MayAssign flat (Memory first low words range signed) =
    (k : ℕ) → k < words → ((signal_at flat.signals (first + k)).variable ≡ true) × ((signal_at flat.signals (first + k)).port ≡ Input → ⊥)
MayAssign flat Instance = ⊥

-- an `initial` item sets a variable as a whole, and of a memory a word
abbrev pub MayStart : Flat → Entity → Bool → Type 0
MayStart flat e indexed = MayAssign flat e × (indexed ≡ is_memory e)

-- a whole signal is the net of a declaration with a value (section 6.1.1), where the value is written in its own
-- instance, else an input port that is connected
abbrev pub DeclaredTarget : Flat → ℕ → Side → Type 0
DeclaredTarget flat id (Whole x) = Unit {0}
DeclaredTarget flat id (Written t i) = (signal_at flat.signals id).instance ≡ i → MayDrive flat (entity_of_signal flat id) true

abbrev pub DriverTarget : Flat → Side → Side → Type 0
DriverTarget flat (Whole id) value = DeclaredTarget flat id value
DriverTarget flat (Written t i) value =
    IsTrue (is_target t) × All (λ p. MayDrive flat (meant (scope_at flat i) (part_name p)) (is_fixed (scope_at flat i) p)) (target_parts t)

abbrev pub MayAssignAll : Flat → ℕ → Statement → Type 0
MayAssignAll flat i s = All (λ a. MayAssign flat (meant (scope_at flat i) (part_name a.part))) (assigned_by s)

abbrev pub BlockTargets : Flat → Block → Type 0
BlockTargets flat block = MayAssignAll flat block.scope block.body

-- an `initial` item sets variables, as an `always` does (section 9.9)
abbrev pub InitialTargets : Flat → Initial → Type 0
InitialTargets flat x = All (λ a. MayStart flat (meant (scope_at flat x.scope) (part_name a.part)) (is_indexed a.part)) (assigned_by x.body)

pub record RightTargets (flat : Flat) : Type 0 where
  pub drivers : (k : ℕ) → k < length flat.drivers → DriverTarget flat (driver_at flat k).target (driver_at flat k).value
  pub clocked : (k : ℕ) → k < length flat.clocked → BlockTargets flat (block_at flat.clocked k)
  pub combinational : (k : ℕ) → k < length flat.combinational → BlockTargets flat (block_at flat.combinational k)
  pub initials : (k : ℕ) → k < length flat.initials → InitialTargets flat (initial_at flat.initials k)

-- 25, of a label (section 9.5.1): digits that match anything stand in `casez` and `casex` alone, x digits in `casex`
-- alone, and both only in a label that is one literal, in brackets or not
abbrev pub has_wild : Number → Bool
has_wild n = not ((n.any == 0) && (n.unknown == 0))

unfoldable pub no_wild : List LiteralToken → Bool
no_wild [] = true
no_wild (l ∷ ls) = not (has_wild l.number) && no_wild ls

unfoldable pub label_fits : ℕ → Tree → Bool
label_fits kind (Paren t) = label_fits kind t
label_fits kind (Literal token n) = cond (kind == keyword_case) (not (has_wild n)) (cond (kind == keyword_casez) (n.unknown == 0) true)
label_fits kind (Name token name) = true
label_fits kind (BitSelect token name i) = no_wild (literals_in i)
label_fits kind (Part token name l r) = no_wild (literals_in (Part token name l r))
label_fits kind (Indexed token name f n up) = no_wild (literals_in (Indexed token name f n up))
label_fits kind (Unary op t) = no_wild (literals_in t)
label_fits kind (Binary op l r) = no_wild (literals_in (Binary op l r))
label_fits kind (Cond a b c) = no_wild (literals_in (Cond a b c))
label_fits kind (Concat ts) = no_wild (literals_in (Concat ts))
label_fits kind (Repeat n ts) = no_wild (literals_in (Repeat n ts))
label_fits kind (Cast signed t) = no_wild (literals_in t)

unfoldable pub all_labels_fit : ℕ → Trees → Bool
all_labels_fit kind End = true
all_labels_fit kind (More t ts) = label_fits kind t && all_labels_fit kind ts

unfoldable mutual
  pub labels_fit : Statement → Bool
  labels_fit Null = true
  labels_fit (Sequence label ss) = all_fit ss
  labels_fit (If c t) = labels_fit t
  labels_fit (IfElse c t u) = labels_fit t && labels_fit u
  labels_fit (Case kind on arms) = arms_fit kind arms
  labels_fit (Assign t now e) = true
  labels_fit (For h t) = true

  pub all_fit : Statements → Bool
  all_fit Done = true
  all_fit (Then t ts) = labels_fit t && all_fit ts

  pub arm_fits : ℕ → Arm → Bool
  arm_fits kind (CaseItem labels colon body) = all_labels_fit kind labels && labels_fit body

  pub arms_fit : ℕ → Arms → Bool
  arms_fit kind NoArms = true
  arms_fit kind (MoreArms a rest) = arm_fits kind a && arms_fit kind rest

pub record RightLabels (flat : Flat) : Type 0 where
  pub clocked : (k : ℕ) → k < length flat.clocked → labels_fit (block_at flat.clocked k).body ≡ true
  pub combinational : (k : ℕ) → k < length flat.combinational → labels_fit (block_at flat.combinational k).body ≡ true

-- 22: no name that leads to the clock stands in an expression, other than as the whole connection of a scalar input port
abbrev pub NoClockIn : Flat → ℕ → ℕ → List Identifier → Type 0
NoClockIn flat clock i names = All (λ n. NameLeads flat clock i n.text → ⊥) names

abbrev pub SideWithout : Flat → ℕ → Side → Type 0
SideWithout flat clock (Whole id) = Unit {0}
SideWithout flat clock (Written t i) = NoClockIn flat clock i (names_in t)

-- a driver that connects a scalar input port to a bare name may hand the clock on
abbrev pub HandsOn : Flat → Driver → Type 0
HandsOn flat d =
    (port id : ℕ) × ((d.target ≡ Whole port) × ((signal_at flat.signals port).port ≡ Input) × ((signal_at flat.signals port).range ≡ None) × IsBareName flat d.value id)

abbrev pub DriverWithout : Flat → ℕ → Driver → Type 0
DriverWithout flat clock d = SideWithout flat clock d.target × (HandsOn flat d ⊎ SideWithout flat clock d.value)

pub record ClockUnread (flat : Flat) (clock : ℕ) : Type 0 where
  pub drivers : (k : ℕ) → k < length flat.drivers → DriverWithout flat clock (driver_at flat k)
  pub clocked : (k : ℕ) → k < length flat.clocked → NoClockIn flat clock (block_at flat.clocked k).scope (names_of (block_at flat.clocked k).body)
  pub combinational : (k : ℕ) → k < length flat.combinational →
      NoClockIn flat clock (block_at flat.combinational k).scope (names_of (block_at flat.combinational k).body)

abbrev pub NoClockRead : Flat → Option ℕ → Type 0
NoClockRead flat None = Unit {0}
NoClockRead flat (Some clock) = ClockUnread flat clock

-- 17: no bit has two writers; a bit that stands twice in one target has two
abbrev pub OneWriter : Flat → Type 0
OneWriter flat = (x y : Writer) (b : Bit) → Writes flat x b → Writes flat y b → x ≡ y

-- 18: combinational blocks assign by `=` alone, and each variable is assigned by one kind alone, a memory as one variable
-- (sections 9.2.1, 9.2.2)
abbrev pub AssignedIn : Flat → Block → ℕ → Bool → Type 0
AssignedIn flat block id now =
    (i : ℕ) × ((a : Assigned) × ((i < length (assigned_by block.body)) × (get_or (assigned_by block.body) i a ≡ a) × (a.now ≡ now)
    × (variable_of (meant (scope_at flat block.scope) (part_name a.part)) ≡ Some id)))

abbrev pub AssignedSomewhere : Flat → ℕ → Bool → Type 0
AssignedSomewhere flat id now =
    ((k : ℕ) × ((k < length flat.clocked) × AssignedIn flat (block_at flat.clocked k) id now))
    ⊎ ((k : ℕ) × ((k < length flat.combinational) × AssignedIn flat (block_at flat.combinational k) id now))

pub record RightKinds (flat : Flat) : Type 0 where
  pub combinational : (k : ℕ) → k < length flat.combinational → All (λ a. a.now ≡ true) (assigned_by (block_at flat.combinational k).body)
  pub one : (id : ℕ) → AssignedSomewhere flat id true → AssignedSomewhere flat id false → ⊥

-- 19: what a clocked block writes by `=` no other clocked block reads
abbrev pub NoRace : Flat → Type 0
NoRace flat =
    (j k : ℕ) → j < length flat.clocked → k < length flat.clocked → (id : ℕ) → AssignedIn flat (block_at flat.clocked j) id true →
    (i : ℕ) (n : Identifier) → i < length (names_read (block_at flat.clocked k).body) →
    get_or (names_read (block_at flat.clocked k).body) i n ≡ n →
    variable_of (meant (scope_at flat (block_at flat.clocked k).scope) n.text) ≡ Some id → j ≡ k

-- 20: no combinational block keeps a value
abbrev pub NoLatches : Flat → Type 0
NoLatches flat = (k : ℕ) → k < length flat.combinational → NoLatch (scope_at flat (block_at flat.combinational k).scope) (block_at flat.combinational k).body

-- 21: the combinational bits have ranks, each above those of the bits that it names
abbrev pub HasRanks : Flat → Type 0
HasRanks flat = (rank : Bit → ℕ) × ((b c : Bit) → BitNames flat b c → rank c < rank b)

-- all of them, in the order in which they are checked
pub record Lawful (flat : Flat) (word : Option Text) : Type 0 where
  pub named : ClockNamed flat word
  pub targets : RightTargets flat
  pub labels : RightLabels flat
  pub clock : Option ℕ
  pub rising : Bool
  pub one_clock : OneClock flat word clock rising
  pub unread : NoClockRead flat clock
  pub one_writer : OneWriter flat
  pub kinds : RightKinds flat
  pub no_race : NoRace flat
  pub no_latches : NoLatches flat
  pub ranks : HasRanks flat
