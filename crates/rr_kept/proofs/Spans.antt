-- A token of a text has its bytes in it.
use Rattle.std.proofs.Common.{◌≡◌, ℕ, zero, suc, ◌<◌, ◌≤◌, List, [], ◌∷◌, length, get_or, sym, subst, arith}
use Rattle.rr_syntax.specs.declared.token.Token.{Token}
use Rattle.rr_lex.specs.Tokens.{Lexeme, lexemes, Rise}

rise_end : (from end : ℕ) (ts : List Lexeme) → Rise from end ts → from ≤ end
rise_end from end [] r = r
rise_end from end (t ∷ ts) r = let a = r.0 in let b = r.1 in let c = rise_end t.end end ts r.2 in omega (arith, a, b, c)

abbrev IsWithin : ℕ → Token → Type 0
IsWithin end t = (t.span.start ≤ t.span.end) × (t.span.end ≤ end)

within : (from end : ℕ) (ts : List Token) (k : ℕ) (d : Token) → Rise from end (lexemes ts) → k < length ts → IsWithin end (get_or ts k d)
within from end [] k d r l = absurd (omega (arith, l))
within from end (x ∷ ts) zero d r l = let a = r.1 in (omega (arith, a), rise_end x.span.end end (lexemes ts) r.2)
within from end (x ∷ ts) (suc k) d r l = within x.span.end end ts k d r.2 (omega (arith, l))

pub span_order : (end : ℕ) (ts : List Token) (k : ℕ) (t : Token) → Rise 0 end (lexemes ts) → k < length ts → t ≡ get_or ts k t → t.span.start ≤ t.span.end
span_order end ts k t r l e = (subst (IsWithin end) (sym e) (within 0 end ts k t r l)).0

pub span_within : (end : ℕ) (ts : List Token) (k : ℕ) (t : Token) → Rise 0 end (lexemes ts) → k < length ts → t ≡ get_or ts k t → t.span.end ≤ end
span_within end ts k t r l e = (subst (IsWithin end) (sym e) (within 0 end ts k t r l)).1
