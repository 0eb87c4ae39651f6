-- Which bytes of a source stand in a text in which it is mended.
use Rattle.std.specs.Prelude.{ℕ, ◌≡◌, List, map}
use Rattle.std.specs.List.{All}
use Rattle.rr_syntax.specs.Words.{Marked, mark_less_or_equal}
use Rattle.rr_lex.specs.Patch.{Edit}
use Rattle.rr_lex.specs.Tokens.{Lexeme}
use Rattle.rr_respell.specs.Stretches.{Stretch, gone, printed_bytes, replaced, source_bytes, token_bytes}

-- The source is cut into stretches that stand in the text in their order and whole, but for those of replaced tokens, which are `<=`.
pub record KeepsOthers (bytes : List ℕ) (ts : List Lexeme) (es : List Edit) (out : List ℕ) : Type 0 where
  pub stretches : List Stretch
  pub source : source_bytes stretches ≡ bytes
  pub printed : printed_bytes stretches ≡ out
  pub gone_are : gone stretches ≡ map (token_bytes bytes) (replaced ts es)
  pub marks : All (λ t. t.word ≡ Marked mark_less_or_equal) (replaced ts es)
