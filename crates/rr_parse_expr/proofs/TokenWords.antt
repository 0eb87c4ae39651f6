-- The words from a token on.
use Rattle.std.proofs.Common.{◌≡◌, ℕ, zero, suc, ◌+◌, ◌≤◌, ◌<◌, List, [], ◌∷◌, length, get_or, drop, refl, ap, sym, arith}
use Rattle.std.proofs.Math.Seq.{drop-nil}
use Rattle.rr_syntax.specs.declared.token.Token.{Token}
use Rattle.rr_syntax.specs.Words.{word, words}

pub length_words : (ts : List Token) → length (words ts) ≡ length ts
unfolding words
length_words [] = refl
length_words (t ∷ ts) = ap suc (length_words ts)

pub words_at : (ts : List Token) (i : ℕ) (t : Token) → i < length ts → t ≡ get_or ts i t → drop i (words ts) ≡ word t.kind ∷ drop (i + 1) (words ts)
unfolding words
words_at [] i t h e = absurd (omega arith)
words_at (u ∷ ts) zero t h e = ap (λ (x : Token). word x.kind ∷ words ts) (sym e)
words_at (u ∷ ts) (suc i) t h e = let n : suc i + 1 ≡ suc (i + 1) = omega arith in rw n (words_at ts i t (omega arith) e)

pub words_past : (ts : List Token) (i : ℕ) → length ts ≤ i → drop i (words ts) ≡ []
unfolding words
words_past [] i h = drop-nil i
words_past (u ∷ ts) zero h = absurd (omega arith)
words_past (u ∷ ts) (suc i) h = words_past ts i (omega arith)
