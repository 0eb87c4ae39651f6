-- What the flat design of a source keeps, beside the laws: which signals ports and whole signals are, and that a bit has one
-- variable.
use Rattle.std.specs.Prelude.{◌≡◌, ◌⊎◌, ℕ, ◌<◌, ◌≤◌, List, length}
use Rattle.std.specs.List.{AllByRecursion}
use Rattle.rr_expr.specs.declared.types.Bit.{Bit}
use Rattle.rr_expr.specs.Reading.{IsBitOf}
use Rattle.rr_expr.specs.Scopes.{meant}
use Rattle.rr_flat.specs.declared.signal.Port.TheVariants.{Input}
use Rattle.rr_flat.specs.Signals.{Text, Signal, signal_at}
use Rattle.rr_flat.specs.Plain.{Side, Written, Whole, Flat}
use Rattle.rr_flat.specs.Targets.{variable_of}
use Rattle.rr_flat.specs.Writers.{scope_at}

-- an input port of the first instance, which is the top (IEEE 1364-2005 section 12.1.1)
abbrev pub IsTopInput : Signal → Type 0
IsTopInput s = (s.instance ≡ 0) × (s.port ≡ Input)

-- a whole signal that is driven is one of the instance in which its value is written, as the net of a declaration with a
-- value (section 6.1.1), or one of an instance below the top, as a port that is connected (section 12.3.9.2)
abbrev pub DrivesOwn : List Signal → Side → Side → Type 0
DrivesOwn signals (Whole id) (Whole x) = ⊥
DrivesOwn signals (Whole id) (Written t i) = (id < length signals) × (((signal_at signals id).instance ≡ i) ⊎ (1 ≤ (signal_at signals id).instance))
DrivesOwn signals (Written t i) value = Unit {0}

-- a bit is one of one variable or net, whichever name stands for it: words are those of one memory (section 4.9.3)
abbrev pub OneVariable : Flat → Type 0
OneVariable flat =
    (i j : ℕ) (x y : Text) (b : Bit) → IsBitOf (meant (scope_at flat i) x) b → IsBitOf (meant (scope_at flat j) y) b →
    variable_of (meant (scope_at flat i) x) ≡ variable_of (meant (scope_at flat j) y)

-- each driver is so, the inputs are input ports of the top, and each bit has one variable
pub record IsSound (flat : Flat) : Type 0 where
  pub drivers : AllByRecursion (λ d. DrivesOwn flat.signals d.target d.value) flat.drivers
  pub inputs : AllByRecursion (λ id. IsTopInput (signal_at flat.signals id)) flat.inputs
  pub variables : OneVariable flat
