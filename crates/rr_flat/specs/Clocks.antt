-- The clock of a flat design: the one top input on an edge of which every clocked block runs.
use Rattle.std.specs.Prelude.{ℕ, ◌<◌, ◌≡◌, List, [], ◌∷◌, length, Bool, true, false, ◌||◌, Option, Some, None, cond, get_or}
use Rattle.std.specs.Str.{bytes_eq}
use Rattle.rr_syntax.specs.Tree.{Name, Literal, Bit as BitSelect, Part, Indexed, Unary, Binary, Cond, Concat, Repeat, Cast, Paren, Identifier, Statement, EdgeEvent}
use Rattle.rr_expr.specs.declared.types.Entity.TheVariants.{Signal as SignalEntity}
use Rattle.rr_expr.specs.Scopes.{meant}
use Rattle.rr_flat.specs.declared.signal.Port.TheVariants.{Input}
use Rattle.rr_flat.specs.Signals.{Text, signal_at}
use Rattle.rr_flat.specs.Plain.{Side, Written, Whole, Block, Flat}
use Rattle.rr_flat.specs.Reads.{names_of}
use Rattle.rr_flat.specs.Writers.{scope_at, driver_at, block_at}

-- a scalar input of the top
abbrev pub IsScalarInput : Flat → ℕ → Type 0
IsScalarInput flat id = ((k : ℕ) × ((k < length flat.inputs) × (get_or flat.inputs k 0 ≡ id))) × ((signal_at flat.signals id).range ≡ None)

-- a side that is a bare name of a scalar
abbrev pub IsBareName : Flat → Side → ℕ → Type 0
IsBareName flat (Whole x) id = ⊥
IsBareName flat (Written (Name token name) i) id = (signed : Bool) × (meant (scope_at flat i) name ≡ SignalEntity id None signed)
IsBareName flat (Written (Literal token n) i) id = ⊥
IsBareName flat (Written (BitSelect token name t) i) id = ⊥
IsBareName flat (Written (Part token name l r) i) id = ⊥
IsBareName flat (Written (Indexed token name f n up) i) id = ⊥
IsBareName flat (Written (Unary op t) i) id = ⊥
IsBareName flat (Written (Binary op l r) i) id = ⊥
IsBareName flat (Written (Cond a b c) i) id = ⊥
IsBareName flat (Written (Concat ts) i) id = ⊥
IsBareName flat (Written (Repeat n ts) i) id = ⊥
IsBareName flat (Written (Cast signed t) i) id = ⊥
IsBareName flat (Written (Paren t) i) id = ⊥

-- the driver that connects a scalar input port, the first that has it as its target, connects it to a bare name
pub record Connects (flat : Flat) (k port id : ℕ) : Type 0 where
  pub inside : k < length flat.drivers
  pub target : (driver_at flat k).target ≡ Whole port
  pub first : (j : ℕ) → j < k → (driver_at flat j).target ≡ Whole port → ⊥
  pub input : (signal_at flat.signals port).port ≡ Input
  pub scalar : (signal_at flat.signals port).range ≡ None
  pub bare : IsBareName flat (driver_at flat k).value id

-- a signal leads to a top input where it is that input, or else a scalar input port that is connected by a bare name
-- which leads there
pub data Leads (flat : Flat) (clock : ℕ) : ℕ → Type 0 where
  itself : Leads flat clock clock
  through : {port id : ℕ} (k : ℕ) → (IsScalarInput flat port → ⊥) → Connects flat k port id → Leads flat clock id → Leads flat clock port

-- a name in a scope does
abbrev pub NameLeads : Flat → ℕ → ℕ → Text → Type 0
NameLeads flat clock i name = (id : ℕ) × ((signed : Bool) × ((meant (scope_at flat i) name ≡ SignalEntity id None signed) × Leads flat clock id))

abbrev pub EdgeLeads : Flat → ℕ → Block → EdgeEvent → Type 0
EdgeLeads flat clock block e = NameLeads flat clock block.scope e.text

unfoldable pub is_among : Text → List Identifier → Bool
is_among name [] = false
is_among name (i ∷ is) = bytes_eq name i.text || is_among name is

abbrev pub no_edge : EdgeEvent
no_edge = record { rising = true; text = []; token = 0 }

-- the first edge whose name does not stand in the body, else the first
unfoldable pub free_edge : Statement → List EdgeEvent → Option EdgeEvent
free_edge body [] = None
free_edge body (e ∷ es) = cond (is_among e.text (names_of body)) (free_edge body es) (Some e)

abbrev pub or_first : Option EdgeEvent → List EdgeEvent → EdgeEvent
or_first (Some e) es = e
or_first None es = get_or es 0 no_edge

abbrev pub deciding_edge : Block → EdgeEvent
deciding_edge block = or_first (free_edge block.body block.edges) block.edges

-- a scalar input of the top, by its name there
abbrev pub IsInputNamed : Flat → Text → ℕ → Type 0
IsInputNamed flat name id = IsScalarInput flat id × ((signed : Bool) × (meant (scope_at flat 0) name ≡ SignalEntity id None signed))

-- which input is the clock: the one that was named, or without a name the one to which the deciding edge of the first
-- clocked block leads; without either there is none
abbrev pub IsDecided : Flat → List Block → Option ℕ → Type 0
IsDecided flat [] clock = clock ≡ None
IsDecided flat (block ∷ blocks) None = ⊥
IsDecided flat (block ∷ blocks) (Some clock) = IsScalarInput flat clock × EdgeLeads flat clock block (deciding_edge block)

abbrev pub IsChosen : Flat → Option Text → Option ℕ → Type 0
IsChosen flat None clock = IsDecided flat flat.clocked clock
IsChosen flat (Some name) None = ⊥
IsChosen flat (Some name) (Some clock) = IsInputNamed flat name clock

-- its direction: that of the first edge of the first clocked block that leads to it; where none is clocked, rising
pub record FirstEdge (flat : Flat) (clock : ℕ) (block : Block) (rising : Bool) : Type 0 where
  pub place : ℕ
  pub inside : place < length block.edges
  pub leads : EdgeLeads flat clock block (get_or block.edges place no_edge)
  pub direction : (get_or block.edges place no_edge).rising ≡ rising
  pub first : (j : ℕ) → j < place → EdgeLeads flat clock block (get_or block.edges j no_edge) → ⊥

abbrev pub IsDirection : Flat → List Block → Option ℕ → Bool → Type 0
IsDirection flat [] clock rising = rising ≡ true
IsDirection flat (block ∷ blocks) None rising = ⊥
IsDirection flat (block ∷ blocks) (Some clock) rising = FirstEdge flat clock block rising

-- a clocked block that has an edge of the clock in its direction
abbrev pub RunsOn : Flat → ℕ → Bool → Block → Type 0
RunsOn flat clock rising block =
    (j : ℕ) × ((j < length block.edges) × ((get_or block.edges j no_edge).rising ≡ rising) × EdgeLeads flat clock block (get_or block.edges j no_edge))

abbrev pub AllRun : Flat → Option ℕ → Bool → Type 0
AllRun flat None rising = Unit {0}
AllRun flat (Some clock) rising = (k : ℕ) → k < length flat.clocked → RunsOn flat clock rising (block_at flat.clocked k)

-- the clock and its direction, with the word that named it or none
pub record OneClock (flat : Flat) (word : Option Text) (clock : Option ℕ) (rising : Bool) : Type 0 where
  pub chosen : IsChosen flat word clock
  pub direction : IsDirection flat flat.clocked clock rising
  pub all : AllRun flat clock rising
