-- What pieces do lifts: each token that they replace may be replaced, and a text may be put before each token before which they put one.
use Rattle.std.proofs.Common.{◌≡◌, ℕ, ◌+◌, List, [], ◌∷◌, ◌++◌, length, refl, sym, ◌∙◌, ap, subst, arith, append-nil}
use Rattle.rr_syntax.specs.Words.{Word}
use Rattle.rr_lex.specs.Patch.{New}
use Rattle.rr_respell.specs.Pieces.{Piece, Kept, Replaced, Put, kept, puts, source_words}
use Rattle.rr_respell.proofs.Makes.{source_join}

-- T of the number of each token that is replaced, and P of that of each token before which something is put
module _ (T P : ℕ → Type 0) where
  unfoldable pub Allowed : ℕ → List Piece → Type 0
  Allowed k [] = Unit {0}
  Allowed k (Kept w ∷ xs) = Allowed (k + 1) xs
  Allowed k (Replaced w n ∷ xs) = T k × Allowed (k + 1) xs
  Allowed k (Put n ∷ xs) = P k × Allowed k xs

  -- pieces of these words of a source, of which the first token has that number
  pub record Lifts (k : ℕ) (xs : List Piece) (a : List Word) : Type 0 where
    pub source : source_words xs ≡ a
    pub allowed : Allowed k xs

module _ (T P : ℕ → Type 0) where
  moved : {j k : ℕ} (xs : List Piece) → j ≡ k → Allowed T P j xs → Allowed T P k xs
  moved xs e h = subst (λ n. Allowed T P n xs) e h

  allowed_join : (k : ℕ) (xs ys : List Piece) → Allowed T P k xs → Allowed T P (k + length (source_words xs)) ys → Allowed T P k (xs ++ ys)
  unfolding Allowed source_words
  allowed_join k [] ys a b = moved ys (omega arith) b
  allowed_join k (Kept w ∷ xs) ys a b = allowed_join (k + 1) xs ys a (moved ys (omega arith) b)
  allowed_join k (Replaced w n ∷ xs) ys a b = (a.0, allowed_join (k + 1) xs ys a.1 (moved ys (omega arith) b))
  allowed_join k (Put n ∷ xs) ys a b = (a.0, allowed_join k xs ys a.1 b)

pub none : {T P : ℕ → Type 0} {k : ℕ} → Lifts T P k [] []
unfolding Allowed source_words
none = record { source = refl; allowed = tt }

-- the same from an equal number on
pub from : {T P : ℕ → Type 0} {j k : ℕ} {xs : List Piece} {a : List Word} → j ≡ k → Lifts T P j xs a → Lifts T P k xs a
from {T = T} {P = P} {xs = xs} {a = a} e x = subst (λ n. Lifts T P n xs a) e x

pub keep : {T P : ℕ → Type 0} {k : ℕ} {xs : List Piece} {a : List Word} (w : Word) → Lifts T P (k + 1) xs a → Lifts T P k (Kept w ∷ xs) (w ∷ a)
unfolding Allowed source_words
keep w x = record { source = ap (λ (l : List Word). w ∷ l) x.source; allowed = x.allowed }

pub join : {T P : ℕ → Type 0} {k : ℕ} {xs ys : List Piece} {a b : List Word} → Lifts T P k xs a → Lifts T P (k + length a) ys b → Lifts T P k (xs ++ ys) (a ++ b)
join {T = T} {P = P} {k = k} {xs = xs} {ys = ys} x y = record {
  source = rw (sym x.source, sym y.source) (source_join xs ys);
  allowed = allowed_join T P k xs ys x.allowed (moved T P ys (ap (λ (l : List Word). k + length l) (sym x.source)) y.allowed);
}

pub put : {T P : ℕ → Type 0} {k : ℕ} {xs : List Piece} {a : List Word} (n : New) → P k → Lifts T P k xs a → Lifts T P k (Put n ∷ xs) a
unfolding Allowed source_words
put n h x = record { source = x.source; allowed = (h, x.allowed) }

pub replace : {T P : ℕ → Type 0} {k : ℕ} (w : Word) (n : New) → T k → Lifts T P k (Replaced w n ∷ []) (w ∷ [])
unfolding Allowed source_words
replace w n h = record { source = refl; allowed = (h, tt) }

-- words that stay
pub words : {T P : ℕ → Type 0} (ws : List Word) {k : ℕ} → Lifts T P k (kept ws) ws
words [] = none
words (w ∷ ws) = keep w (words ws)

news : {T P : ℕ → Type 0} {k : ℕ} (ns : List New) → P k → Lifts T P k (puts ns) []
news [] h = none
news (n ∷ ns) h = put n h (news ns h)

-- new tokens after pieces
pub after : {T P : ℕ → Type 0} {k : ℕ} {xs : List Piece} {a : List Word} (ns : List New) → P (k + length a) → Lifts T P k xs a → Lifts T P k (xs ++ puts ns) a
after {a = a} ns h x = let j = join x (news ns h) in record { source = j.source ∙ append-nil a; allowed = j.allowed }
