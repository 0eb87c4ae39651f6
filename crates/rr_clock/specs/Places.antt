-- The names of modules that are the clock in one of their instances.
use Rattle.std.specs.Prelude.{ℕ, ◌<◌, ◌≡◌, List, [], ◌∷◌, length, map, fold, flat_map, All, Contains, Bool, cond, ◌&&◌, Option, Some, None, get_or, nat_eq}
use Rattle.std.specs.Str.{bytes_eq}
use Rattle.rr_expr.specs.declared.types.Entity.TheVariants as entity
use Rattle.rr_expr.specs.Scopes.{Names}
use Rattle.rr_flat.specs.Signals.{with_name}
use Rattle.rr_flat.specs.Signals.{Text, Signal, signal_at}
use Rattle.rr_flat.specs.Clocks.{NameLeads}
use Rattle.rr_flat.specs.Plain.{Flat}
use Rattle.rr_clock.specs.Clock.{has}
use Rattle.rr_text_names.specs.Names.{scalar_named}

-- the module of an instance
abbrev pub owner_at : Flat → ℕ → ℕ
owner_at flat i = get_or flat.owners i 0

-- whether a name of an instance leads to the clock, if there is one
abbrev pub IsClock : Flat → Option ℕ → ℕ → Text → Type 0
IsClock flat None i name = ⊥
IsClock flat (Some clock) i name = NameLeads flat clock i name

-- a signal of an instance of the module has this name, which leads there to the clock
pub record IsClockName (flat : Flat) (clock : Option ℕ) (owner : ℕ) (name : Text) : Type 0 where
  pub signal : ℕ
  pub inside : signal < length flat.signals
  pub is : owner_at flat (signal_at flat.signals signal).instance ≡ owner
  pub named : (signal_at flat.signals signal).name ≡ name
  pub leads : IsClock flat clock (signal_at flat.signals signal).instance name

-- a module with names
pub record Place : Type 0 where
  pub owner : ℕ
  pub clocks : List Text

-- they are exactly these, each once
pub record IsPlace (flat : Flat) (clock : Option ℕ) (p : Place) : Type 0 where
  pub each : (k : ℕ) → k < length p.clocks → IsClockName flat clock p.owner (get_or p.clocks k [])
  pub all : (name : Text) → IsClockName flat clock p.owner name → Contains p.clocks name
  pub once : (j k : ℕ) → j < length p.clocks → k < length p.clocks → get_or p.clocks j [] ≡ get_or p.clocks k [] → j ≡ k

-- of each module that has an instance, in the order in which the design lists them
pub record ArePlaces (flat : Flat) (clock : Option ℕ) (ps : List Place) : Type 0 where
  pub owners : map (λ p. p.owner) ps ≡ flat.reached
  pub right : (k : ℕ) (p : Place) → k < length ps → IsPlace flat clock (get_or ps k p)

-- a name with its module
pub record ClockName : Type 0 where
  pub owner : ℕ
  pub name : Text

-- the names of signals, where they are one of a set of signals
abbrev pub clock_name : Flat → (ℕ → Bool) → Signal → List ClockName
clock_name flat set s = cond (has set (scalar_named flat s.instance s.name)) (record { owner = owner_at flat s.instance; name = s.name } ∷ []) []

abbrev pub clock_names : Flat → (ℕ → Bool) → List ClockName
clock_names flat set = flat_map (clock_name flat set) flat.signals

-- each of these names is one that is the clock, and all such are there
pub record AreNames (flat : Flat) (clock : Option ℕ) (names : List ClockName) : Type 0 where
  pub each : (k : ℕ) (d : ClockName) → k < length names → IsClockName flat clock (get_or names k d).owner (get_or names k d).name
  pub all : (owner : ℕ) (name : Text) → IsClockName flat clock owner name → (k : ℕ) × ((k < length names) × ((d : ClockName) → get_or names k d ≡ record { owner = owner; name = name }))

-- those of one module, each once
abbrev pub with_clock : ℕ → Names → ClockName → Names
with_clock owner s c = cond (nat_eq c.owner owner) (with_name s c.name entity.Instance) s

abbrev pub clock_set : ℕ → List ClockName → Names
clock_set owner names = fold (with_clock owner) [] names

abbrev pub names_in : Names → List Text
names_in s = map (λ e. e.0) s

abbrev pub place_of : List ClockName → ℕ → Place
place_of names owner = record { owner = owner; clocks = names_in (clock_set owner names) }
