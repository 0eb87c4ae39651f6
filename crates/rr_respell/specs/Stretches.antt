-- Which bytes of a source stand in a printed text.
use Rattle.std.specs.Prelude.{ℕ, ◌≡◌, ◌-◌, List, [], ◌∷◌, ◌++◌, take, drop, map, Option, Some, None}
use Rattle.std.specs.List.{All}
use Rattle.rr_syntax.specs.declared.token.Number.{Number}
use Rattle.rr_syntax.specs.Words.{Digits}
use Rattle.rr_lex.specs.Tokens.{Lexeme}
use Rattle.rr_lex.specs.Patch.{New, Edit}

-- bytes of the source that stay, the bytes of a token that is replaced, and new bytes
pub data Stretch : Type 0 where
  Stays : List ℕ → Stretch
  Gone : List ℕ → Stretch
  Added : List ℕ → Stretch

unfoldable pub source_bytes : List Stretch → List ℕ
source_bytes [] = []
source_bytes (Stays bs ∷ ss) = bs ++ source_bytes ss
source_bytes (Gone bs ∷ ss) = bs ++ source_bytes ss
source_bytes (Added bs ∷ ss) = source_bytes ss

unfoldable pub printed_bytes : List Stretch → List ℕ
printed_bytes [] = []
printed_bytes (Stays bs ∷ ss) = bs ++ printed_bytes ss
printed_bytes (Gone bs ∷ ss) = printed_bytes ss
printed_bytes (Added bs ∷ ss) = bs ++ printed_bytes ss

unfoldable pub gone : List Stretch → List (List ℕ)
gone [] = []
gone (Stays bs ∷ ss) = gone ss
gone (Gone bs ∷ ss) = bs ∷ gone ss
gone (Added bs ∷ ss) = gone ss

-- the tokens that have a new text
abbrev pub replaced_if : Option New → Lexeme → List Lexeme → List Lexeme
replaced_if None t ts = ts
replaced_if (Some n) t ts = t ∷ ts

unfoldable pub replaced : List Lexeme → List Edit → List Lexeme
replaced [] es = []
replaced (t ∷ ts) [] = []
replaced (t ∷ ts) (e ∷ es) = replaced_if e.text t (replaced ts es)

-- the bytes of a token
abbrev pub token_bytes : List ℕ → Lexeme → List ℕ
token_bytes bytes t = take (t.end - t.start) (drop t.start bytes)

abbrev pub IsLiteral : Lexeme → Type 0
IsLiteral t = (n : Number) × (t.word ≡ Digits n)

-- The source is cut into stretches that stand in the printed text in their order and whole, but for those of replaced
-- tokens, which are literals.
pub record StandsWhole (bytes : List ℕ) (ts : List Lexeme) (es : List Edit) (out : List ℕ) : Type 0 where
  pub stretches : List Stretch
  pub source : source_bytes stretches ≡ bytes
  pub printed : printed_bytes stretches ≡ out
  pub gone_are : gone stretches ≡ map (token_bytes bytes) (replaced ts es)
  pub literals : All IsLiteral (replaced ts es)
