-- What every flat design keeps.
use Rattle.std.specs.Prelude.{◌≡◌, ℕ, ◌+◌, ◌-◌, ◌^◌, ◌<◌, ◌≤◌, Bool, true, false, List, [], ◌∷◌, length, map, All, Option, Some, None, get_or, slice_index_or}
use Rattle.std.specs.List.{AllByRecursion, range_with_len}
use Rattle.rr_syntax.specs.Tree.{Tree, Trees, End, More, Statement, NamedConnection, Connections, Positions}
use Rattle.rr_syntax.specs.Tree.{Names as Named}
use Rattle.rr_syntax.specs.Expressions.{WellFormed, FitLiterals}
use Rattle.rr_syntax.specs.Statements.{WellFormedStatement, FitLiteralsStatement}
use Rattle.rr_syntax.specs.View.{plain, plain_statement}
use Rattle.rr_expr.specs.Scopes.{Names, range_width}
use Rattle.rr_expr.specs.Faults.{fault}
use Rattle.rr_flat.specs.declared.signal.Port.TheVariants.{Inner}
use Rattle.rr_flat.specs.declared.signal.Signal.{Signal}
use Rattle.rr_flat.specs.View.{plain_signal}
use Rattle.rr_expr.specs.declared.types.Entity.{Entity}
use Rattle.rr_expr.specs.declared.types.Entity.TheVariants as entity
use Rattle.rr_flat.specs.Signals as plain
use Rattle.rr_flat.specs.Signals.{signal_at}
use Rattle.rr_flat.specs.declared.design.Side as declared_side
use Rattle.rr_flat.specs.declared.design.Side.TheVariants as side
use Rattle.rr_flat.specs.declared.design.Driver.{Driver}
use Rattle.rr_flat.specs.declared.design.Block.{Block}
use Rattle.rr_flat.specs.declared.design.Initial.{Initial}
use Rattle.rr_flat.specs.declared.design.Part as design
use Rattle.rr_flat.specs.declared.design.Part.TheVariants as part
use Rattle.rr_flat.specs.Shapes.{statement_faults}
use Rattle.rr_flat.specs.Loops.{is_loop_free}

-- of that instance, with the width of its range, which is 1 to 128 and holds the starting value
pub record IsOwn (i : ℕ) (s : Signal) : Type 0 where
  pub instance : s.instance ≡ i
  pub width : s.width ≡ range_width s.range
  pub low : 1 ≤ s.width
  pub high : s.width ≤ 128
  pub start : s.start < 2 ^ s.width

-- the k-th word of a memory with this lowest index: a variable of its range and sign that is no port (section 4.9.3)
pub record IsWord (low : ℕ) (bounds : Option (ℕ × ℕ)) (sign : Bool) (k : ℕ) (s : plain.Signal) : Type 0 where
  pub range : s.range ≡ bounds
  pub signed : s.signed ≡ sign
  pub word : s.word ≡ Some (low + k)
  pub variable : s.variable ≡ true
  pub port : s.port ≡ Inner

-- a constant, or one of these signals, of which the first has number base, with its range and sign, or some of them one after
-- the other, which are the words of a memory
abbrev pub IsNamed : ℕ → List plain.Signal → Entity → Type 0
IsNamed base signals (entity.Constant bits signed) = Unit {0}
IsNamed base signals (entity.Signal id range signed) =
    (base ≤ id) × (id < base + length signals) × ((signal_at signals (id - base)).range ≡ range) × ((signal_at signals (id - base)).signed ≡ signed)
IsNamed base signals (entity.Memory first low words range signed) =
    (base ≤ first) × (first + words ≤ base + length signals) × (1 ≤ words)
    × ((k : ℕ) → k < words → IsWord low range signed k (signal_at signals (first + k - base)))
IsNamed base signals entity.Instance = Unit {0}

abbrev pub AreNamed : ℕ → List plain.Signal → Names → Type 0
AreNamed base signals names = All (λ e. IsNamed base signals e.1) names

-- each signal is one of the instance, each signal or word among the names is one of these, and all are few
pub record IsHead (i base bits : ℕ) (signals : List Signal) (scope : Names) : Type 0 where
  pub signals_in : All (IsOwn i) signals
  pub scope_in : AreNamed base (map plain_signal signals) scope
  pub numbers : base + length signals ≤ 65536
  pub few : bits ≤ 65536

-- of an instance that there is, with the width of its range, which is 1 to 128 and holds the starting value
pub record IsSignal (instances : ℕ) (s : Signal) : Type 0 where
  pub instance : s.instance < instances
  pub width : s.width ≡ range_width s.range
  pub low : 1 ≤ s.width
  pub high : s.width ≤ 128
  pub start : s.start < 2 ^ s.width

-- each name that stands for a signal has the number of one, with its range and sign
abbrev pub IsScope : List Signal → Names → Type 0
IsScope signals names = AreNamed 0 (map plain_signal signals) names

abbrev pub names_at : List Names → ℕ → Names
names_at scopes i = slice_index_or scopes i []

-- well-formed, with literals of 1 to 128 bits, and with a shape
pub record IsExpression (names : Names) (t : Tree) : Type 0 where
  pub formed : WellFormed t
  pub fit : FitLiterals t
  pub shaped : fault names t false ≡ None

-- the same of each expression in a statement, and no loop in it (section 9.6): each has been unfolded
pub record IsStatement (names : Names) (s : Statement) : Type 0 where
  pub formed : WellFormedStatement s
  pub fit : FitLiteralsStatement s
  pub shaped : statement_faults names s ≡ []
  pub loops : is_loop_free s ≡ true

-- the same of each expression of a list, and of those that are connected to ports
unfoldable pub AreExpressions : Names → Trees → Type 0
AreExpressions names End = Unit {0}
AreExpressions names (More t ts) = IsExpression names t × AreExpressions names ts

abbrev pub IsValue : Names → Option Tree → Type 0
IsValue names None = Unit {0}
IsValue names (Some t) = IsExpression names t

abbrev pub IsConnection : Names → NamedConnection → Type 0
IsConnection names c = IsValue names c.value

unfoldable pub AreConnected : Names → Connections → Type 0
AreConnected names (Positions ts) = AreExpressions names ts
AreConnected names (Named list) = AllByRecursion (IsConnection names) list

abbrev pub IsSide : List Signal → List Names → declared_side.Side → Type 0
IsSide signals scopes (side.Text e scope) = (scope < length scopes) × IsExpression (names_at scopes scope) (plain e.now)
IsSide signals scopes (side.Whole id) = id < length signals

pub record IsDriver (signals : List Signal) (scopes : List Names) (d : Driver) : Type 0 where
  pub target : IsSide signals scopes d.target
  pub value : IsSide signals scopes d.value

pub record IsBlock (scopes : List Names) (b : Block) : Type 0 where
  pub there : b.scope < length scopes
  pub body : IsStatement (names_at scopes b.scope) (plain_statement b.body.now)

pub record IsInitial (scopes : List Names) (x : Initial) : Type 0 where
  pub there : x.scope < length scopes
  pub body : IsStatement (names_at scopes x.scope) (plain_statement x.body.now)

-- one starting value for each signal, which its bits hold
pub record AreStarts (signals : List Signal) (starts : List ℕ) : Type 0 where
  pub all : length starts ≡ length signals
  pub fit : (id : ℕ) → id < length signals → get_or starts id 0 < 2 ^ (signal_at (map plain_signal signals) id).width

-- the drivers of a walk by their numbers, in the order of the walk
unfoldable pub drivers_of : List design.Part → List ℕ
drivers_of [] = []
drivers_of (part.Driver k ∷ ps) = k ∷ drivers_of ps
drivers_of (part.Clocked k ∷ ps) = drivers_of ps
drivers_of (part.Combinational k ∷ ps) = drivers_of ps
drivers_of (part.Initial k ∷ ps) = drivers_of ps

unfoldable pub clocked_of : List design.Part → List ℕ
clocked_of [] = []
clocked_of (part.Driver k ∷ ps) = clocked_of ps
clocked_of (part.Clocked k ∷ ps) = k ∷ clocked_of ps
clocked_of (part.Combinational k ∷ ps) = clocked_of ps
clocked_of (part.Initial k ∷ ps) = clocked_of ps

unfoldable pub combinational_of : List design.Part → List ℕ
combinational_of [] = []
combinational_of (part.Driver k ∷ ps) = combinational_of ps
combinational_of (part.Clocked k ∷ ps) = combinational_of ps
combinational_of (part.Combinational k ∷ ps) = k ∷ combinational_of ps
combinational_of (part.Initial k ∷ ps) = combinational_of ps

unfoldable pub initials_of : List design.Part → List ℕ
initials_of [] = []
initials_of (part.Driver k ∷ ps) = initials_of ps
initials_of (part.Clocked k ∷ ps) = initials_of ps
initials_of (part.Combinational k ∷ ps) = initials_of ps
initials_of (part.Initial k ∷ ps) = k ∷ initials_of ps

abbrev pub IsPart : ℕ → ℕ → ℕ → ℕ → design.Part → Type 0
IsPart drivers clocked combinational initials (part.Driver k) = k < drivers
IsPart drivers clocked combinational initials (part.Clocked k) = k < clocked
IsPart drivers clocked combinational initials (part.Combinational k) = k < combinational
IsPart drivers clocked combinational initials (part.Initial k) = k < initials

-- so many drivers, blocks and `initial` items stand in the walk, each once and in the order of its number
pub record IsWalk (drivers clocked combinational initials : ℕ) (walk : List design.Part) : Type 0 where
  pub parts_in : All (IsPart drivers clocked combinational initials) walk
  pub all_drivers : drivers_of walk ≡ range_with_len 0 drivers
  pub all_clocked : clocked_of walk ≡ range_with_len 0 clocked
  pub all_combinational : combinational_of walk ≡ range_with_len 0 combinational
  pub all_initials : initials_of walk ≡ range_with_len 0 initials

-- every number of a signal or a scope is that of an entry, and every expression has a shape in its scope
pub record IsFlat (signals : List Signal) (scopes : List Names) (drivers : List Driver) (clocked combinational : List Block) (walk : List design.Part) (inputs outputs owners : List ℕ) (starts : List ℕ) (initials : List Initial) : Type 0 where
  pub signals_in : All (IsSignal (length scopes)) signals
  pub starts_in : AreStarts signals starts
  pub scopes_in : All (IsScope signals) scopes
  pub drivers_in : All (IsDriver signals scopes) drivers
  pub clocked_in : All (IsBlock scopes) clocked
  pub combinational_in : All (IsBlock scopes) combinational
  pub initials_in : All (IsInitial scopes) initials
  pub walked : IsWalk (length drivers) (length clocked) (length combinational) (length initials) walk
  pub inputs_in : All (λ id. id < length signals) inputs
  pub outputs_in : All (λ id. id < length signals) outputs
  pub owned : length owners ≡ length scopes
  pub numbers : length signals ≤ 65536
  pub instances : length scopes ≤ 256
