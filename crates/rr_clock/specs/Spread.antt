-- How the table of the top inputs to which signals lead is made.
use Rattle.std.specs.Prelude.{ℕ, suc, ◌+◌, ◌<◌, ◌≤◌, ◌≡◌, List, [], ◌∷◌, length, Bool, true, false, cond, ◌&&◌, Option, Some, None, is_none, nat_lt, set}
use Rattle.rr_flat.specs.Signals.{signal_at}
use Rattle.rr_flat.specs.Clocks.{IsScalarInput, Leads}
use Rattle.rr_flat.specs.Plain.{Side, Written, Whole, Flat}
use Rattle.rr_flat.specs.Writers.{driver_at}
use Rattle.rr_text_names.specs.Names.{entry, is_input}
use Rattle.rr_clock.specs.Clock.{told, bare_scalar}

-- the first driver of each signal that has it as its target, as a whole
pub record AreFirstDrivers (flat : Flat) (table : ℕ → Option ℕ) : Type 0 where
  pub inside : (x k : ℕ) → table x ≡ Some k → k < length flat.drivers
  pub target : (x k : ℕ) → table x ≡ Some k → (driver_at flat k).target ≡ Whole x
  pub first : (x k : ℕ) → table x ≡ Some k → (j : ℕ) → j < k → (driver_at flat j).target ≡ Whole x → ⊥
  pub none : (x : ℕ) → x < length flat.signals → table x ≡ None → (j : ℕ) → j < length flat.drivers → (driver_at flat j).target ≡ Whole x → ⊥

-- a table of the first drivers with one more driver
abbrev pub noted : Side → ℕ → List (Option ℕ) → List (Option ℕ)
noted (Written t i) k table = table
noted (Whole id) k table = cond (nat_lt id (length table) && is_none (entry table id)) (set table id (Some k)) table

-- a table of inputs with one more input of the top
abbrev pub input_noted : Flat → ℕ → List (Option ℕ) → List (Option ℕ)
input_noted flat id table = cond (is_none (signal_at flat.signals id).range) (set table id (Some id)) table

-- the scalar that an input port takes by its bare name
abbrev pub bare_value : Flat → Option ℕ → Option ℕ
bare_value flat None = None
bare_value flat (Some k) = bare_scalar flat (driver_at flat k).value

abbrev pub feeder : Flat → (ℕ → Option ℕ) → ℕ → Option ℕ
feeder flat first port =
    cond (is_input (signal_at flat.signals port).port && is_none (signal_at flat.signals port).range) (bare_value flat (first port)) None

-- the entry of a port without one that its feeder has
abbrev pub next_source : Flat → (ℕ → Option ℕ) → (ℕ → Option ℕ) → ℕ → Option ℕ
next_source flat first table port = cond (is_none (table port)) (told table (feeder flat first port)) None

-- no entry is wrong, and the scalar inputs of the top have theirs
pub record AreSound (flat : Flat) (table : ℕ → Option ℕ) : Type 0 where
  pub input : (x c : ℕ) → table x ≡ Some c → IsScalarInput flat c
  pub leads : (x c : ℕ) → table x ≡ Some c → Leads flat c x
  pub itself : (c : ℕ) → IsScalarInput flat c → table c ≡ Some c

abbrev pub missing : List (Option ℕ) → ℕ
missing [] = 0
missing (None ∷ table) = suc (missing table)
missing (Some x ∷ table) = missing table

-- what a pass over the ports below a number does to a table: where it fills an entry fewer are left, else the table is
-- as it was, and none of these ports could have been filled
pub record IsSpread (flat : Flat) (first : ℕ → Option ℕ) (old : List (Option ℕ)) (ports : ℕ) (new : List (Option ℕ)) (grown : Bool) : Type 0 where
  pub size : length new ≡ length old
  pub sound : AreSound flat (entry new)
  pub fewer : grown ≡ true → missing new < missing old
  pub same : grown ≡ false → new ≡ old
  pub quiet : grown ≡ false → (p : ℕ) → p < ports → next_source flat first (entry old) p ≡ None
