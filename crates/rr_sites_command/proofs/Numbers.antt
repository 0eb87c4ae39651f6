-- Numbers at tokens.
use Rattle.std.proofs.Common.{◌≡◌, ℕ, zero, suc, ◌<◌, List, [], ◌∷◌, length, get_or, sym, subst, arith}
use Rattle.std.specs.Prelude.{All}
use Rattle.std.specs.List.{AllByRecursion}
use Rattle.std.proofs.lemmas.List.Elements.{recursion_from_All}
use Rattle.rr_syntax.specs.declared.token.Token.{Token}
use Rattle.rr_lex.specs.Tokens.{IsSound, lexeme, lexemes, words_of}

sound_here : (tokens : List Token) → AllByRecursion IsSound (words_of (lexemes tokens)) → (at : ℕ) (t : Token) → at < length tokens → t ≡ get_or tokens at t → IsSound (lexeme t).word
sound_here [] h at t l e = absurd (omega (arith, l))
sound_here (x ∷ xs) h zero t l e = subst (λ (y : Token). IsSound (lexeme y).word) (sym e) h.0
sound_here (x ∷ xs) h (suc n) t l e = sound_here xs h.1 n t (omega (arith, l)) e

-- the word of a token that is there
pub sound_at : (tokens : List Token) (at : ℕ) (t : Token) → All IsSound (words_of (lexemes tokens)) → at < length tokens → t ≡ get_or tokens at t → IsSound (lexeme t).word
sound_at tokens at t h l e = sound_here tokens (recursion_from_All IsSound (words_of (lexemes tokens)) h) at t l e
