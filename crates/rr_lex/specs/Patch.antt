-- A text with new texts for some tokens, and new tokens after some.
use Rattle.std.specs.Prelude.{ℕ, ◌≡◌, ◌≢◌, ◌-◌, ◌⊎◌, List, [], ◌∷◌, ◌++◌, take, drop, map, Bool, true, false, ◌&&◌, if◌then◌else◌, Option, Some, None, is_none, get_or}
use Rattle.std.specs.List.{list_all}
use Rattle.rr_syntax.specs.declared.token.Number.{Number}
use Rattle.rr_syntax.specs.Words.{Word, Named, Digits, Reserved, Marked, marks, keywords, mark_star, mark_close_parenthesis}
use Rattle.rr_lex.specs.Bytes.{is, begins, starts, is_gap, is_letter, is_name_byte, is_printable}
use Rattle.rr_lex.specs.Numbers.{text_of, literal_parts, plain_literal}
use Rattle.rr_lex.specs.Tokens.{Lexeme, words_of, place_of, Stands, AreTokens}

-- a new token and its text
pub record New : Type 0 where
  pub word : Word
  pub text : List ℕ

-- what is done at one token: its new text, and the tokens put after it
pub record Edit : Type 0 where
  pub text : Option New
  pub run : List New

-- each new token with a blank before it, and one blank after the last
abbrev pub run_end : List New → List ℕ
run_end [] = 32 ∷ []
run_end (n ∷ ns) = 32 ∷ (n.text ++ run_end ns)

abbrev pub run_text : List New → List ℕ
run_text [] = []
run_text (n ∷ ns) = run_end (n ∷ ns)

-- a replaced token is written with a blank on both sides
abbrev pub token_text : Option New → List ℕ → List ℕ
token_text None old = old
token_text (Some n) old = 32 ∷ (n.text ++ (32 ∷ []))

-- the bytes from a place on, with the edits of the tokens from there on
abbrev pub patched : ℕ → List ℕ → List Lexeme → List Edit → List ℕ
patched at bs [] es = bs
patched at bs (t ∷ ts) [] = bs
patched at bs (t ∷ ts) (e ∷ es) =
    take (t.start - at) bs ++ (token_text e.text (take (t.end - t.start) (drop (t.start - at) bs)) ++ (run_text e.run ++ patched t.end (drop (t.end - at) bs) ts es))

abbrev pub token_word : Option New → Word → Word
token_word None old = old
token_word (Some n) old = n.word

abbrev pub new_words : List New → List Word
new_words ns = map (λ n. n.word) ns

-- the words with the edits
abbrev pub patched_words : List Lexeme → List Edit → List Word
patched_words [] es = []
patched_words (t ∷ ts) [] = t.word ∷ words_of ts
patched_words (t ∷ ts) (e ∷ es) = token_word e.text t.word ∷ (new_words e.run ++ patched_words ts es)

-- A text that is this token wherever a blank follows, and that begins with no apostrophe. A plain decimal is none: past the blank an apostrophe may follow.
pub record IsNew (n : New) : Type 0 where
  pub alone : (after : List ℕ) → Stands n.word n.text (32 ∷ after)
  pub unquoted : begins (is 39) n.text ≡ false

-- The same where, past the blank and all others, no apostrophe follows, which would make a plain decimal the size of a based one (section 3.5.1).
pub record IsNewUnquoted (n : New) : Type 0 where
  pub alone : (after : List ℕ) → begins (is 39) (starts is_gap after) ≡ false → Stands n.word n.text (32 ∷ after)
  pub unquoted : begins (is 39) n.text ≡ false

-- A new token before the others of its run. What follows the last one is the source's, and may begin with an apostrophe.
abbrev pub IsNewBefore : List New → New → Type 0
IsNewBefore [] n = IsNew n
IsNewBefore (m ∷ ns) n = IsNewUnquoted n

abbrev pub AllNew : List New → Type 0
AllNew [] = Unit {0}
AllNew (n ∷ ns) = IsNewBefore ns n × AllNew ns

abbrev pub Replaces : Option New → Word → Type 0
Replaces None old = Unit {0}
Replaces (Some n) old = IsNew n × (old ≢ Marked mark_close_parenthesis)

abbrev pub IsNext : Word → List Lexeme → Type 0
IsNext w [] = ⊥
IsNext w (t ∷ ts) = t.word ≡ w

-- No closing bracket is replaced, and nothing is put between * and ).
abbrev pub AreEdits : List Lexeme → List Edit → Type 0
AreEdits [] es = Unit {0}
AreEdits (t ∷ ts) [] = Unit {0}
AreEdits (t ∷ ts) (e ∷ es) =
    Replaces e.text t.word × AllNew e.run × ((e.run ≡ []) ⊎ (t.word ≡ Marked mark_star → IsNext (Marked mark_close_parenthesis) ts → ⊥)) × AreEdits ts es

-- these bytes have tokens with these words
abbrev pub AreWords : List ℕ → List Word → Type 0
AreWords bs ws = (ts : List Lexeme) × AreTokens bs ts × (words_of ts ≡ ws)

-- a literal without x and z digits
abbrev pub plain_number : ℕ → Bool → ℕ → Number
plain_number w signed v = record { width = w; signed = signed; value = v; any = 0; unknown = 0 }

abbrev pub new_literal : ℕ → Bool → ℕ → New
new_literal w signed v = record { word = Digits (plain_number w signed v); text = text_of (literal_parts w signed v) }

-- a plain decimal, which has 32 bits
abbrev pub new_decimal : List ℕ → New
new_decimal text = record { word = Digits (plain_literal text); text = text }

abbrev pub new_keyword : ℕ → New
new_keyword k = record { word = Reserved k; text = get_or keywords k [] }

abbrev pub new_mark : ℕ → New
new_mark m = record { word = Marked m; text = get_or marks m [] }

-- what the name of a token may be: one or more bytes 33 to 126
abbrev pub IsNameText : List ℕ → Type 0
IsNameText name = (begins is_printable name ≡ true) × (list_all is_printable name ≡ true)

-- a name that needs no \ before it
unfoldable pub is_plain_name : List ℕ → Bool
is_plain_name name = begins is_letter name && (list_all is_name_byte name && is_none (place_of name keywords))

-- a name is written as it is, or else with \ before it
abbrev pub name_text : List ℕ → List ℕ
name_text name = if is_plain_name name then name else 92 ∷ name

abbrev pub new_name : List ℕ → New
new_name name = record { word = Named name; text = name_text name }

-- The patched text has the source's words with the edits.
abbrev pub PatchReads : List ℕ → List Lexeme → List Edit → Type 0
PatchReads bs ts es = AreTokens bs ts → AreEdits ts es → AreWords (patched 0 bs ts es) (patched_words ts es)
