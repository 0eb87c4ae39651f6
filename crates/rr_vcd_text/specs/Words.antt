-- The words of a text (IEEE 1364-2005 section 18.2): what stands between white space, each with its line, from 1.
use Rattle.std.specs.Prelude.{ℕ, ◌+◌, List, [], ◌∷◌, ◌++◌, Bool, ◌||◌, ◌==◌, codes, if◌then◌else◌}
use Rattle.std.specs.Str.{bytes_eq}

pub record Word : Type 0 where
  pub text : List ℕ
  pub line : ℕ

-- blank, tab, line feed, carriage return, form feed
abbrev pub is_white : ℕ → Bool
is_white b = b == 32 || (b == 9 || (b == 10 || (b == 13 || b == 12)))

abbrev pub next_line : ℕ → ℕ → ℕ
next_line line b = if b == 10 then line + 1 else line

-- a word that ends here, where there is one
abbrev pub ended : ℕ → List ℕ → List Word
ended line [] = []
ended line (b ∷ bs) = record { text = b ∷ bs; line = line } ∷ []

-- the words of a text whose first byte stands on a line, behind the front of a word
unfoldable pub words_from : ℕ → List ℕ → List ℕ → List Word
words_from line word [] = ended line word
words_from line word (b ∷ bs) =
    if is_white b then ended line word ++ words_from (next_line line b) [] bs else words_from line (word ++ b ∷ []) bs

abbrev pub words : List ℕ → List Word
words bytes = words_from 1 [] bytes

-- the line of the last word, or else the one given
unfoldable pub last_line : ℕ → List Word → ℕ
last_line line [] = line
last_line line (w ∷ ws) = last_line w.line ws

abbrev pub is_word : List ℕ → Word → Bool
is_word text w = bytes_eq w.text text

abbrev pub is_end : Word → Bool
is_end w = is_word (codes "$end") w
