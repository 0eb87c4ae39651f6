-- What lists of reaches have: the bits of a text, and those that an assignment writes.
use Rattle.std.specs.Prelude.{◌≡◌, ◌+◌, ◌⊎◌, List, [], ◌∷◌, Bool, true, false, not, ◌&&◌, ◌||◌, nat_lt}
use Rattle.rr_expr.specs.declared.types.Bit.{Bit}
use Rattle.rr_named_bits.specs.declared.piece.Reach.{Reach}
use Rattle.rr_named_bits.specs.declared.writes.Write.{Write}
use Rattle.rr_named_bits.specs.Pieces.{covers}

-- whether a bit is one of a reach: of one of its signals, at a place of the piece
abbrev pub reaches : Reach → Bit → Bool
reaches r b = (not (nat_lt b.signal r.piece.signal) && nat_lt b.signal (r.piece.signal + r.words)) && covers (record r.piece { signal = b.signal }) b

-- some reach has the bit
unfoldable pub covered : List Reach → Bit → Bool
covered [] b = false
covered (r ∷ rs) b = reaches r b || covered rs b

-- a list has grown by exactly the bits of a set
pub record Grown (old new : List Reach) (P : Bit → Type 0) : Type 0 where
  pub kept : (b : Bit) → covered old b ≡ true → covered new b ≡ true
  pub added : (b : Bit) → P b → covered new b ≡ true
  pub only : (b : Bit) → covered new b ≡ true → (covered old b ≡ true) ⊎ P b

-- some assignment may write the bit, and some writes it for certain
unfoldable pub may : List Write → Bit → Bool
may [] b = false
may (w ∷ ws) b = reaches w.reach b || may ws b

unfoldable pub must : List Write → Bit → Bool
must [] b = false
must (w ∷ ws) b = (w.certain && reaches w.reach b) || must ws b
