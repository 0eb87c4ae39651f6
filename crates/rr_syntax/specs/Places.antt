-- Which token holds a byte of the source.
use Rattle.std.specs.Prelude.{ℕ, ◌≤◌, ◌<◌, ◌≡◌, List, Some, All, slice_get}
use Rattle.std.specs.List.{AllWithin}
use Rattle.rr_syntax.specs.declared.token.Span.{Span}
use Rattle.rr_syntax.specs.declared.token.Token.{Token}

-- a span holds the bytes from its start on and before its end
abbrev pub Holds : Span → ℕ → Type 0
Holds s offset = (s.start ≤ offset) × (offset < s.end)

abbrev pub NoneHolds : List Token → ℕ → Type 0
NoneHolds tokens offset = All (λ t. ¬ (Holds t.span offset)) tokens

-- the token stands in the list, its span holds the byte, and no span before it does
pub record IsFirstHolding (tokens : List Token) (offset : ℕ) (t : Token) : Type 0 where
  pub place : ℕ
  pub is : slice_get tokens place ≡ Some t
  pub holds : Holds t.span offset
  pub first : AllWithin (λ u. ¬ (Holds u.span offset)) tokens 0 place
