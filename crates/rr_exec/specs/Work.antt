-- What the types of the code stand for, and what statements need of their scope.
use Rattle.std.specs.Prelude.{◌≡◌, ℕ, ◌<◌, ◌≤◌, List, map, drop, true}
use Rattle.rr_syntax.specs.Tree.{Trees, End, More, Arms, NoArms, MoreArms}
use Rattle.rr_expr.specs.declared.types.Bit.{Bit}
use Rattle.rr_expr.specs.Reading.{IsBitOf}
use Rattle.rr_expr.specs.Scopes.{Names, meant}
use Rattle.rr_expr.specs.Values.{form}
use Rattle.rr_named_bits.specs.declared.piece.Piece.{Piece}
use Rattle.rr_named_bits.specs.Pieces.{bits_of, covers}
use Rattle.rr_cycle.specs.Exec.{Update, labels_of}
use Rattle.rr_exec.specs.declared.writes.Later.{Later}

-- the bits of a run of places, and those of a word from a place up
abbrev pub update_of : Later → Update
update_of l = record { bits = bits_of l.piece; value = drop l.from l.bits }

abbrev pub updates_in : List Later → List Update
updates_in list = map update_of list

-- each bit of a run is one of a signal that has a value, of at most 128 bits
abbrev pub Fits : ℕ → Piece → Type 0
Fits n p = (b : Bit) → covers p b ≡ true → (b.signal < n) × (b.place < 128)

pub record IsLater (n : ℕ) (l : Later) : Type 0 where
  pub piece : Fits n l.piece
  pub from : l.from ≤ 128

-- each bit of a name is one of a signal that has a value, of at most 128 bits
abbrev pub Holds : Names → ℕ → Type 0
Holds s n = (name : List ℕ) (b : Bit) → IsBitOf (meant s name) b → (b.signal < n) × (b.place < 128)

-- labels that are no wider than the context in which they are compared
unfoldable pub AreNarrow : Names → ℕ → Trees → Type 0
AreNarrow s w End = Unit {0}
AreNarrow s w (More t ts) = ((form s t).width ≤ w) × AreNarrow s w ts

unfoldable pub ArmsNarrow : Names → ℕ → Arms → Type 0
ArmsNarrow s w NoArms = Unit {0}
ArmsNarrow s w (MoreArms a rest) = AreNarrow s w (labels_of a) × ArmsNarrow s w rest
