-- Value change dumps (IEEE 1364-2005 section 18.2): a head of declarations, and a body of moments and changes, as
-- constructs of words.
use Rattle.std.specs.Prelude.{ℕ, ◌+◌, ◌-◌, ◌≡◌, ◌++◌, ◌∷◌, List, [], length, take, slice_get, codes, Bool, true, false, not, ◌||◌, ◌==◌, nat_lt, nat_le, Option, Some, None, if◌then◌else◌}
use Rattle.std.specs.List.{list_all, list_any}
use Rattle.std.specs.Str.{bytes_eq}
use Rattle.rr_vcd_text.specs.Words.{Word, words, is_word, is_end}
use Rattle.rr_vcd_text.specs.Numbers.{number}

-- words up to `$end`, this included
pub record UpToEnd (ws : List Word) : Type 0 where
  pub inner : List Word
  pub last : Word
  pub are : ws ≡ inner ++ last ∷ []
  pub none : list_any is_end inner ≡ false
  pub end : is_end last ≡ true

-- the head

-- a variable: its identifier, its size, the scope in which it is declared directly, where there is one, and its name there
pub record Variable : Type 0 where
  pub id : List ℕ
  pub size : ℕ
  pub scope : Option ℕ
  pub name : List ℕ

-- what was declared: how many scopes there are, which are open, the innermost last, and the variables in order
pub record Declared : Type 0 where
  pub scopes : ℕ
  pub opened : List ℕ
  pub variables : List Variable

abbrev pub nothing : Declared
nothing = record { scopes = 0; opened = []; variables = [] }

abbrev pub innermost : List ℕ → Option ℕ
innermost opened = slice_get opened (length opened - 1)

-- one scope more, which is open
abbrev pub with_scope : Declared → Declared
with_scope d = record { scopes = d.scopes + 1; opened = d.opened ++ d.scopes ∷ []; variables = d.variables }

-- the innermost scope is closed
abbrev pub without_scope : Declared → Declared
without_scope d = record { scopes = d.scopes; opened = take (length d.opened - 1) d.opened; variables = d.variables }

abbrev pub with_variable : Declared → List ℕ → ℕ → List ℕ → Declared
with_variable d id size name = record {
  scopes = d.scopes;
  opened = d.opened;
  variables = d.variables ++ record { id = id; size = size; scope = innermost d.opened; name = name } ∷ [];
}

abbrev pub is_remark : Word → Bool
is_remark w = is_word (codes "$comment") w || (is_word (codes "$date") w || (is_word (codes "$version") w || is_word (codes "$timescale") w))

-- one construct of the head, from what was declared before it to what is after it (sections 18.2.3.1 to 18.2.3.8)
pub data Declares (d : Declared) : List Word → Declared → Type 0 where
  remark : (w : Word) (ws : List Word) → is_remark w ≡ true → UpToEnd ws → Declares d (w ∷ ws) d
  scope : (w kind name last : Word) → is_word (codes "$scope") w ≡ true → is_end last ≡ true → Declares d (w ∷ (kind ∷ (name ∷ (last ∷ [])))) (with_scope d)
  upscope : (w last : Word) → is_word (codes "$upscope") w ≡ true → nat_lt 0 (length d.opened) ≡ true → is_end last ≡ true → Declares d (w ∷ (last ∷ [])) (without_scope d)
  variable : (w kind size id name : Word) (ws : List Word) (n : ℕ) → is_word (codes "$var") w ≡ true → number size.text ≡ Some n → UpToEnd ws →
      Declares d (w ∷ (kind ∷ (size ∷ (id ∷ (name ∷ ws))))) (with_variable d id.text n name.text)

-- `$enddefinitions` up to `$end`
pub record EndsHead (ws : List Word) : Type 0 where
  pub first : Word
  pub others : List Word
  pub are : ws ≡ first ∷ others
  pub enddefinitions : is_word (codes "$enddefinitions") first ≡ true
  pub closed : UpToEnd others

-- the body

-- what a construct of the body tells: nothing, the time of a moment, a value of an identifier, or that values are no
-- longer dumped (`$dumpoff`)
pub data Told : Type 0 where
  Nothing : Told
  Moment : ℕ → Told
  Change : List ℕ → List ℕ → Told
  Off : Told

-- `0 1 x X z Z`
abbrev pub is_value : ℕ → Bool
is_value b = b == 48 || (b == 49 || (b == 120 || (b == 88 || (b == 122 || b == 90))))

abbrev pub is_section : Word → Bool
is_section w = is_word (codes "$dumpvars") w || (is_word (codes "$dumpall") w || (is_word (codes "$dumpon") w || is_end w))

-- an identifier of some variable
abbrev pub is_declared : List Variable → List ℕ → Bool
is_declared vs id = list_any (λ v. bytes_eq id v.id) vs

-- each variable with the identifier has so many digits
abbrev pub has_room : List Variable → List ℕ → ℕ → Bool
has_room vs id digits = list_all (λ v. not (bytes_eq id v.id) || nat_le digits v.size) vs

-- a time after the last one, where there was one
abbrev pub is_later : Option ℕ → ℕ → Bool
is_later None n = true
is_later (Some t) n = nat_lt t n

-- one construct of the body, after the last moment, where there was one (section 18.2.2 and 18.2.3.9)
pub data Tells (d : Declared) (last : Option ℕ) : List Word → Told → Type 0 where
  section : (w : Word) → is_section w ≡ true → Tells d last (w ∷ []) Nothing
  off : (w : Word) → is_word (codes "$dumpoff") w ≡ true → Tells d last (w ∷ []) Off
  remark : (w : Word) (ws : List Word) → is_word (codes "$comment") w ≡ true → UpToEnd ws → Tells d last (w ∷ ws) Nothing
  moment : (w : Word) (digits : List ℕ) (n : ℕ) → w.text ≡ 35 ∷ digits → number digits ≡ Some n → is_later last n ≡ true → Tells d last (w ∷ []) (Moment n)
  scalar : (w : Word) (b : ℕ) (id : List ℕ) → w.text ≡ b ∷ id → is_value b ≡ true → is_declared d.variables id ≡ true → has_room d.variables id 1 ≡ true →
      Tells d last (w ∷ []) (Change id (b ∷ []))
  vector : (w id : Word) (b c : ℕ) (digits : List ℕ) → w.text ≡ b ∷ (c ∷ digits) → (b == 98 || b == 66) ≡ true → list_all is_value (c ∷ digits) ≡ true →
      is_declared d.variables id.text ≡ true → has_room d.variables id.text (length (c ∷ digits)) ≡ true → Tells d last (w ∷ (id ∷ [])) (Change id.text (c ∷ digits))
  other : (w id : Word) (b : ℕ) (rest : List ℕ) → w.text ≡ b ∷ rest → (b == 114 || (b == 82 || b == 115)) ≡ true → is_declared d.variables id.text ≡ true →
      Tells d last (w ∷ (id ∷ [])) Nothing

abbrev pub time_after : Option ℕ → Told → Option ℕ
time_after last Nothing = last
time_after last (Moment n) = Some n
time_after last (Change id digits) = last
time_after last Off = last

-- constructs that go from what was declared to more, and from a last moment to a later one
pub data Head : Declared → List Word → Declared → Type 0 where
  done : (d : Declared) → Head d [] d
  further : (d e f : Declared) (ws rest : List Word) → Declares d ws e → Head e rest f → Head d (ws ++ rest) f

pub data Body (d : Declared) : Option ℕ → List Word → List Told → Type 0 where
  done : (last : Option ℕ) → Body d last [] []
  further : (last : Option ℕ) (ws rest : List Word) (t : Told) (ts : List Told) → Tells d last ws t → Body d (time_after last t) rest ts → Body d last (ws ++ rest) (t ∷ ts)

-- the words are the rest of a dump behind what was declared, which declares more and tells that
pub record IsDumpFrom (before : Declared) (ws : List Word) (d : Declared) (told : List Told) : Type 0 where
  pub head : List Word
  pub ends : List Word
  pub body : List Word
  pub whole : ws ≡ head ++ (ends ++ body)
  pub declares : Head before head d
  pub enddefinitions : EndsHead ends
  pub tells : Body d None body told

abbrev pub IsDump : List ℕ → Declared → List Told → Type 0
IsDump bytes d told = IsDumpFrom nothing (words bytes) d told
