-- Numbers that are put at the bits of a driver or a block, unless one is taken.
use Rattle.std.specs.Prelude.{◌≡◌, ℕ, ◌+◌, ◌<◌, ◌≤◌, ◌⊎◌, List, [], ◌∷◌, Bool, true, false, cond, ◌&&◌, ◌||◌, Option, Some, None, nat_eq}
use Rattle.rr_expr.specs.declared.types.Bit.{Bit}
use Rattle.rr_flat.specs.Targets.{same_bit}
use Rattle.rr_flat.specs.declared.design.Part as design
use Rattle.rr_flat.specs.Plain.{Flat}
use Rattle.rr_flat.specs.Writers.{Writer, Writes}
use Rattle.rr_writers.specs.Doubles.{part_of}

-- a number may be put where there is none, or again where that may be
abbrev pub is_free : Bool → ℕ → ℕ → Bool
is_free again number found = nat_eq found 0 || (again && nat_eq found number)

-- how often a bit stands in a list
unfoldable pub times : List (Option Bit) → Bit → ℕ
times [] b = 0
times (None ∷ cs) b = times cs b
times (Some c ∷ cs) b = cond (same_bit c b) 1 0 + times cs b

-- a number has been put at each bit of a set, which was free
pub record SetMarked (again : Bool) (number : ℕ) (P : Bit → Bool) (old new : Bit → ℕ) : Type 0 where
  pub free : (b : Bit) → P b ≡ true → is_free again number (old b) ≡ true
  pub put : (b : Bit) → new b ≡ cond (P b) number (old b)

pub record IsTaken (again : Bool) (number : ℕ) (P : Bit → Bool) (old new : Bit → ℕ) (b : Bit) : Type 0 where
  pub has : P b ≡ true
  pub taken : is_free again number (old b) ≡ false
  pub left : new b ≡ old b

-- and at each bit of a list, in which none stands twice
pub record ListMarked (number : ℕ) (bits : List (Option Bit)) (old new : Bit → ℕ) : Type 0 where
  pub once : (b : Bit) → times bits b ≤ 1
  pub free : (b : Bit) → 1 ≤ times bits b → old b ≡ 0
  pub put : (b : Bit) → 1 ≤ times bits b → new b ≡ number
  pub rest : (b : Bit) → times bits b ≡ 0 → new b ≡ old b

pub record IsTwice (number : ℕ) (bits : List (Option Bit)) (old new : Bit → ℕ) (b : Bit) : Type 0 where
  pub has : 1 ≤ times bits b
  pub taken : ((2 ≤ times bits b) × (new b ≡ number)) ⊎ ((0 < old b) × (new b ≡ old b))

-- the same of the writers of a part of the walk
pub record PartMarked (flat : Flat) (p : design.Part) (number : ℕ) (old new : Bit → ℕ) : Type 0 where
  pub alone : (x y : Writer) (b : Bit) → p ≡ part_of x → p ≡ part_of y → Writes flat x b → Writes flat y b → x ≡ y
  pub free : (x : Writer) (b : Bit) → p ≡ part_of x → Writes flat x b → old b ≡ 0
  pub put : (x : Writer) (b : Bit) → p ≡ part_of x → Writes flat x b → new b ≡ number
  pub rest : (b : Bit) → (new b ≡ old b) ⊎ ((new b ≡ number) × ((x : Writer) × ((p ≡ part_of x) × Writes flat x b)))

pub record PartTaken (flat : Flat) (p : design.Part) (number : ℕ) (old new : Bit → ℕ) (b : Bit) : Type 0 where
  pub writer : Writer
  pub at : p ≡ part_of writer
  pub writes : Writes flat writer b
  pub taken : ((0 < old b) × (new b ≡ old b)) ⊎ ((new b ≡ number) × ((x : Writer) × ((p ≡ part_of x) × (Writes flat x b × (x ≡ writer → ⊥)))))
