-- The clock: which signals lead to it, the block at which there is no one clock, and the names that use it as data.
use Rattle.std.specs.Prelude.{ℕ, zero, ◌<◌, ◌≤◌, ◌≡◌, List, [], ◌∷◌, ◌++◌, length, Bool, true, false, cond, ◌&&◌, Option, Some, None, is_none, is_some, get_or, nat_eq, flat_map}
use Rattle.rr_syntax.specs.Tree.{Tree, Name, Literal, Bit as BitSelect, Part, Indexed, Unary, Binary, Cond, Concat, Repeat, Cast, Paren, Identifier}
use Rattle.rr_flat.specs.Signals.{Text, signal_at}
use Rattle.rr_flat.specs.Clocks.{IsScalarInput, IsInputNamed, Leads, IsChosen, IsDirection, RunsOn, OneClock}
use Rattle.rr_flat.specs.declared.design.Part as design
use Rattle.rr_flat.specs.Plain.{Side, Written, Whole, Driver, Block, Flat}
use Rattle.rr_flat.specs.Reads.{names_in, names_of}
use Rattle.rr_flat.specs.Writers.{block_at}
use Rattle.rr_clock.specs.declared.clock.Found.{Found}
use Rattle.rr_clock.specs.declared.clock.Found.TheVariants.{Clock, Nowhere}
use Rattle.rr_text_names.specs.Firsts.{earliest, walked}
use Rattle.rr_flat.specs.Parts.{driver_of, block_of}
use Rattle.rr_text_names.specs.Names.{scalar_named, is_input}

-- a table by signal has the top input to which each leads, if any
pub record AreSources (flat : Flat) (table : ℕ → Option ℕ) : Type 0 where
  pub input : (x c : ℕ) → table x ≡ Some c → IsScalarInput flat c
  pub leads : (x c : ℕ) → table x ≡ Some c → Leads flat c x
  pub all : (x c : ℕ) → IsScalarInput flat c → Leads flat c x → table x ≡ Some c

-- what a table has of a scalar, if it is one
abbrev pub told : (ℕ → Option ℕ) → Option ℕ → Option ℕ
told table None = None
told table (Some id) = table id

-- the top input to which a name leads
abbrev pub source_named : Flat → (ℕ → Option ℕ) → ℕ → Text → Option ℕ
source_named flat table i name = told table (scalar_named flat i name)

-- the input that a word names, if there is a word
abbrev pub IsNamed : Flat → Option Text → Option ℕ → Type 0
IsNamed flat None named = named ≡ None
IsNamed flat (Some name) None = ⊥
IsNamed flat (Some name) (Some id) = IsInputNamed flat name id

-- the first clocked block at which there is no one clock: the first of all where no clock is found, or the deciding
-- edge of a first block leads nowhere, or no edge of that block leads to the clock; else the first that has no edge of
-- the clock in its direction
pub data ClockFails (flat : Flat) (word : Option Text) (at : ℕ) : Type 0 where
  undecided : 0 < length flat.clocked → at ≡ (block_at flat.clocked 0).token
      → ((clock : Option ℕ) (rising : Bool) → IsChosen flat word clock → IsDirection flat flat.clocked clock rising → ⊥) → ClockFails flat word at
  unclocked : (clock : ℕ) (rising : Bool) (k : ℕ) → IsChosen flat word (Some clock) → IsDirection flat flat.clocked (Some clock) rising
      → k < length flat.clocked → at ≡ (block_at flat.clocked k).token → (RunsOn flat clock rising (block_at flat.clocked k) → ⊥)
      → ((j : ℕ) → j < k → RunsOn flat clock rising (block_at flat.clocked j)) → ClockFails flat word at

-- what is found: the one clock with its direction, or that there is none
abbrev pub IsOne : Flat → Option Text → Found → Type 0
IsOne flat word (Clock clock rising) = OneClock flat word clock rising
IsOne flat word (Nowhere at) = (clock : Option ℕ) (rising : Bool) → OneClock flat word clock rising → ⊥

-- where there is none, at the first block that fails
abbrev pub IsFirst : Flat → Option Text → Found → Type 0
IsFirst flat word (Clock clock rising) = Unit {0}
IsFirst flat word (Nowhere at) = ClockFails flat word at

-- a scalar input of the top, if any signal
abbrev pub IsClockInput : Flat → Option ℕ → Type 0
IsClockInput flat None = Unit {0}
IsClockInput flat (Some clock) = IsScalarInput flat clock

abbrev pub HasInput : Flat → Found → Type 0
HasInput flat (Clock clock rising) = IsClockInput flat clock
HasInput flat (Nowhere at) = Unit {0}

-- the signals that lead to the clock are told by a set of them
pub record TellsLeads (flat : Flat) (clock : ℕ) (set : ℕ → Bool) : Type 0 where
  pub sound : (x : ℕ) → set x ≡ true → Leads flat clock x
  pub all : (x : ℕ) → Leads flat clock x → set x ≡ true

abbrev pub has : (ℕ → Bool) → Option ℕ → Bool
has set None = false
has set (Some id) = set id

-- the names of an instance that are one of these signals, by their tokens
abbrev pub use_of : Flat → (ℕ → Bool) → ℕ → Identifier → List ℕ
use_of flat set i n = cond (has set (scalar_named flat i n.text)) (n.token ∷ []) []

abbrev pub uses : Flat → (ℕ → Bool) → ℕ → List Identifier → List ℕ
uses flat set i names = flat_map (use_of flat set i) names

abbrev pub side_uses : Flat → (ℕ → Bool) → Side → List ℕ
side_uses flat set (Whole id) = []
side_uses flat set (Written t i) = uses flat set i (names_in t)

-- the whole connection of a scalar input port (section 12.3.9.2)
abbrev pub bare_scalar : Flat → Side → Option ℕ
bare_scalar flat (Whole x) = None
bare_scalar flat (Written (Name token name) i) = scalar_named flat i name
bare_scalar flat (Written (Literal token n) i) = None
bare_scalar flat (Written (BitSelect token name t) i) = None
bare_scalar flat (Written (Part token name l r) i) = None
bare_scalar flat (Written (Indexed token name f n up) i) = None
bare_scalar flat (Written (Unary op t) i) = None
bare_scalar flat (Written (Binary op l r) i) = None
bare_scalar flat (Written (Cond a b c) i) = None
bare_scalar flat (Written (Concat ts) i) = None
bare_scalar flat (Written (Repeat n ts) i) = None
bare_scalar flat (Written (Cast signed t) i) = None
bare_scalar flat (Written (Paren t) i) = None

abbrev pub is_scalar_port : Flat → Side → Bool
is_scalar_port flat (Whole id) = is_input (signal_at flat.signals id).port && is_none (signal_at flat.signals id).range
is_scalar_port flat (Written t i) = false

abbrev pub hands_on : Flat → Driver → Bool
hands_on flat d = is_scalar_port flat d.target && is_some (bare_scalar flat d.value)

abbrev pub value_uses : Flat → (ℕ → Bool) → Driver → List ℕ
value_uses flat set d = cond (hands_on flat d) [] (side_uses flat set d.value)

abbrev pub uses_of_driver : Flat → (ℕ → Bool) → Driver → List ℕ
uses_of_driver flat set d = side_uses flat set d.target ++ value_uses flat set d

abbrev pub uses_of_block : Flat → (ℕ → Bool) → Block → List ℕ
uses_of_block flat set b = uses flat set b.scope (names_of b.body)

abbrev pub uses_of_part : Flat → (ℕ → Bool) → design.Part → List ℕ
uses_of_part flat set p = uses_of_driver flat set (driver_of flat p) ++ uses_of_block flat set (block_of flat p)

-- of a design
abbrev pub all_uses : Flat → (ℕ → Bool) → List ℕ
all_uses flat set = walked (uses_of_part flat set) flat

-- the first of them, with the set of the signals that lead to the clock
pub record FirstUse (flat : Flat) (clock : ℕ) (found : Option ℕ) : Type 0 where
  pub set : ℕ → Bool
  pub leads : TellsLeads flat clock set
  pub first : found ≡ earliest (all_uses flat set)

-- a design without a clock has none
abbrev pub IsFirstUse : Flat → Option ℕ → Option ℕ → Type 0
IsFirstUse flat None found = found ≡ None
IsFirstUse flat (Some clock) found = FirstUse flat clock found
