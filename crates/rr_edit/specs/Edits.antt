-- Edits of a text.
use Rattle.std.specs.Prelude.{ℕ, ◌-◌, ◌<◌, ◌≤◌, ◌≡◌, Bool, true, false, List, [], ◌∷◌, ◌++◌, take, drop, length}
use Rattle.std.specs.List.{All}
use Rattle.rr_directive.specs.declared.piece.Kind.{Kind}
use Rattle.rr_directive.specs.declared.piece.Kind.TheVariants as kind
use Rattle.rr_directive.specs.Bytes.{begins, is, is_printable}
use Rattle.rr_directive.specs.Pieces.{units_of}

-- the bytes from a place up to another are replaced by these
pub record Edit : Type 0 where
  pub from : ℕ
  pub to : ℕ
  pub text : List ℕ

-- the bytes from a place on, with these edits made
unfoldable pub edited : ℕ → List ℕ → List Edit → List ℕ
edited at bs [] = bs
edited at bs (e ∷ es) = take (e.from - at) bs ++ (e.text ++ edited e.to (drop (e.to - at) bs) es)

-- they stand between two places in their order, and none overlaps another
unfoldable pub InOrder : ℕ → ℕ → List Edit → Type 0
InOrder at end [] = at ≤ end
InOrder at end (e ∷ es) = (at ≤ e.from) × ((e.from ≤ e.to) × InOrder e.to end es)

-- it replaces bytes of which the first and the last are printable, or stands directly behind a printable byte, as it does where it
-- replaces whole tokens or stands behind one
pub record IsPlaced (bytes : List ℕ) (e : Edit) : Type 0 where
  pub first : e.from < e.to → begins is_printable (drop e.from bytes) ≡ true
  pub last : 1 ≤ e.to → begins is_printable (drop (e.to - 1) bytes) ≡ true

-- a unit that is a byte by itself or an escaped name
unfoldable pub is_single : Kind → Bool
is_single kind.Comment = false
is_single kind.Escaped = true
is_single kind.Plain = true
is_single kind.Use = false
is_single (kind.Named d) = false

-- a text that may be put between tokens: it begins and ends with a blank, and no comment, use or directive stands in it
pub record IsPut (text : List ℕ) : Type 0 where
  pub first : begins (is 32) text ≡ true
  pub front : List ℕ
  pub last : text ≡ front ++ (32 ∷ [])
  pub units : All (λ u. is_single u.piece.kind ≡ true) (units_of text)

pub record AreEdits (bytes : List ℕ) (es : List Edit) : Type 0 where
  pub order : InOrder 0 (length bytes) es
  pub placed : All (IsPlaced bytes) es
  pub put : All (λ e. IsPut e.text) es
