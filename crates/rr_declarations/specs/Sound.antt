-- What ranges, names and declarations keep.
use Rattle.std.specs.Prelude.{◌≡◌, ℕ, ◌<◌, ◌≤◌, true, List, length, All, Option, Some, None}
use Rattle.rr_expr.specs.Scopes.{Names}
use Rattle.rr_expr.specs.declared.types.Entity.{Entity}
use Rattle.rr_expr.specs.declared.types.Entity.TheVariants as entity
use Rattle.rr_declarations.specs.declared.declare.Declaration.{Declaration}
use Rattle.rr_declarations.specs.declared.declare.Declared.{Declared}
use Rattle.rr_flat.specs.declared.signal.Port.TheVariants.{Inner}
use Rattle.rr_flat.specs.Sound.{IsOwn}
use Rattle.rr_memory_words.specs.Words.{AreWords}

-- bounds of 0 to 65,535
abbrev pub IsRange : Option (ℕ × ℕ) → Type 0
IsRange None = Unit {0}
IsRange (Some r) = (r.0 < 65536) × (r.1 < 65536)

-- bounds of indices, in a declaration of a variable that is no port
abbrev pub AreIndices : Declaration → Option (ℕ × ℕ) → Type 0
AreIndices k None = Unit {0}
AreIndices k (Some r) = (r.0 < 65536) × (r.1 < 65536) × (k.variable ≡ true) × (k.port ≡ Inner)

-- a constant, or a signal that has one of n numbers, and no memory
abbrev pub IsPlace : ℕ → Entity → Type 0
IsPlace n (entity.Constant bits signed) = Unit {0}
IsPlace n (entity.Signal id range signed) = id < n
IsPlace n (entity.Memory first low words range signed) = ⊥
IsPlace n entity.Instance = Unit {0}

abbrev pub ArePlaces : ℕ → Names → Type 0
ArePlaces n names = All (λ e. IsPlace n e.1) names

-- words that it may have
abbrev pub HasWords : Declared → Type 0
HasWords x = AreWords x.signal.variable x.signal.port x.words

-- a signal of the instance, with such words
abbrev pub IsDeclared : ℕ → Declared → Type 0
IsDeclared i x = IsOwn i x.signal × HasWords x

-- each signal among the names has a place in the list, and the list is no longer than the bits, which are few
pub record IsListing (i : ℕ) (names : Names) (list : List Declared) (bits : ℕ) : Type 0 where
  pub names_in : ArePlaces (length list) names
  pub signals_in : All (IsDeclared i) list
  pub counted : length list ≤ bits
  pub few : bits ≤ 65536
