-- The lines of a list of sites, each ended by LF: `N literal OFFSET VALUE`, `N guard OFFSET guards G` or
-- `N overwrite OFFSET NAME guards G`. N counts from 0, OFFSET is the byte at which the site's first token begins, VALUE is the
-- literal in its width (IEEE 1364-2005 section 3.5.1), and G is the number of the names that a guard may be.
use Rattle.std.specs.Prelude.{ℕ, ◌+◌, false, List, [], ◌∷◌, ◌++◌, length, get_or, codes, decimal}
use Rattle.rr_syntax.specs.declared.token.Number.{Number}
use Rattle.rr_syntax.specs.Words.{Word, Named, System, Digits, Reserved, Marked}
use Rattle.rr_lex.specs.Numbers.{text_of, literal_parts}
use Rattle.rr_lex.specs.Tokens.{Lexeme}
use Rattle.rr_elaborate.specs.Designs.{start_of}
use Rattle.rr_choice.specs.Sites as sites
use Rattle.rr_choice.specs.Sites.{SiteKind, Site}

abbrev pub no_number : Number
no_number = record { width = 1; signed = false; value = 0; any = 0; unknown = 0 }

abbrev pub number_in : Word → Number
number_in (Named name) = no_number
number_in (System name) = no_number
number_in (Digits n) = n
number_in (Reserved k) = no_number
number_in (Marked m) = no_number

-- the number at a token, as the literal of a site has it
abbrev pub number_at : List Lexeme → ℕ → Number
number_at ts at = number_in (get_or ts at (record { word = Marked 0; start = 0; end = 0 })).word

-- a number in its width, for instance `4'h1` or `32'sh00000001`
abbrev pub value_text : Number → List ℕ
value_text n = text_of (literal_parts n.width n.signed n.value)

abbrev pub literal_line : ℕ → ℕ → Number → List ℕ
literal_line n offset number = decimal n ++ (codes " literal " ++ (decimal offset ++ (32 ∷ (value_text number ++ (10 ∷ [])))))

abbrev pub guard_line : ℕ → ℕ → ℕ → List ℕ
guard_line n offset names = decimal n ++ (codes " guard " ++ (decimal offset ++ (codes " guards " ++ (decimal names ++ (10 ∷ [])))))

-- the name stands as it is, without the `\` of an escaped one
abbrev pub overwrite_line : ℕ → ℕ → List ℕ → ℕ → List ℕ
overwrite_line n offset name names = decimal n ++ (codes " overwrite " ++ (decimal offset ++ (32 ∷ (name ++ (codes " guards " ++ (decimal names ++ (10 ∷ [])))))))

-- site number n of a text with these tokens
abbrev pub kind_line : List Lexeme → ℕ → ℕ → SiteKind → List ℕ
kind_line ts n token (sites.Literal width signed) = literal_line n (start_of ts token) (number_at ts token)
kind_line ts n token (sites.Guard owner extent names) = guard_line n (start_of ts token) (length names)
kind_line ts n token (sites.Overwrite owner target width now names) = overwrite_line n (start_of ts token) target (length names)

abbrev pub site_line : List Lexeme → ℕ → Site → List ℕ
site_line ts n s = kind_line ts n s.token s.kind

-- one after the other, of which the first has number n
unfoldable pub site_lines : List Lexeme → ℕ → List Site → List ℕ
site_lines ts n [] = []
site_lines ts n (s ∷ ss) = site_line ts n s ++ site_lines ts (n + 1) ss
