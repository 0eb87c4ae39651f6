-- Where a text breaks the form of a dump.
use Rattle.std.specs.Prelude.{ℕ, ◌≡◌, ◌⊎◌, ◌++◌, ◌∷◌, List, [], Option}
use Rattle.rr_vcd_text.specs.Words.{Word, words, last_line}
use Rattle.rr_vcd_text.specs.Dump.{Declared, Told, nothing, Head, Body, IsDumpFrom}

-- the words can go on to those of a form
abbrev pub IsFront : (List Word → Type 0) → List Word → Type 0
IsFront Is ws = (more : List Word) × Is (ws ++ more)

-- the line at which words break a form, some fronts of which are whole: that of the first word behind which they cannot go
-- on; or of the first word of a construct without its end, which stands behind the longest whole front
pub data IsBrokenAt (Whole : List Word → Type 0) (Is : List Word → Type 0) (ws : List Word) (line : ℕ) : Type 0 where
  breaks : (front : List Word) (w : Word) (rest : List Word) → ws ≡ front ++ w ∷ rest → IsFront Is front → (IsFront Is (front ++ w ∷ []) → ⊥) →
      line ≡ w.line → IsBrokenAt Whole Is ws line
  unended : (front : List Word) (w : Word) (rest : List Word) → ws ≡ front ++ w ∷ rest → Whole front → IsFront Is ws →
      ((more left : List Word) → rest ≡ more ++ left → Whole (front ++ w ∷ more) → ⊥) → line ≡ w.line → IsBrokenAt Whole Is ws line

abbrev pub IsBody : Declared → Option ℕ → List Word → Type 0
IsBody d last ws = (told : List Told) × Body d last ws told

abbrev pub IsRest : Declared → List Word → Type 0
IsRest d ws = (e : Declared) × ((told : List Told) × IsDumpFrom d ws e told)

-- whole constructs of the head, or a whole head and whole constructs of the body
abbrev pub AreWhole : Declared → List Word → Type 0
AreWhole d ws = ((e : Declared) × Head d ws e) ⊎ IsRest d ws

-- the line at which a text breaks the form of a dump; where every construct has its end and the head does not end, it is
-- that of the last word, and 1 where there is none
pub data IsBadAt (bytes : List ℕ) (line : ℕ) : Type 0 where
  broken : IsBrokenAt (AreWhole nothing) (IsRest nothing) (words bytes) line → IsBadAt bytes line
  headless : (d : Declared) → Head nothing (words bytes) d → line ≡ last_line 1 (words bytes) → IsBadAt bytes line
