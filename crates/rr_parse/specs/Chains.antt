-- Lists that are read part by part, with nothing or with separators between, where R says what reading at a token may answer.
use Rattle.std.specs.Prelude.{ℕ, ◌≡◌, ◌≤◌, ◌<◌, List, [], ◌∷◌, length, Bool, Result, Ok, Err, ◌⊎◌}
use Rattle.rr_syntax.specs.declared.token.Token.{Token}
use Rattle.rr_parse_expr.specs.declared.expression.ParseFault.{ParseFault}
use Rattle.rr_parse_expr.specs.declared.expression.ParseFault.TheVariants.{Memory}
use Rattle.rr_grammar.specs.Formats.{Finds}
use Rattle.rr_grammar.specs.Parts.{separator_of}
use Rattle.rr_parse_expr.specs.declared.lists.Piece.{Piece}
use Rattle.rr_parse_expr.specs.Lists.{Reads, found, Refuses}
use Rattle.rr_parse.specs.declared.lists.Separated.{Separated}
use denote.Ref.{Bor}

-- parts with nothing between
unfoldable pub Run : {A : Type 0} → Reads A → ℕ → List A → ℕ → Type 0
Run R at [] next = at ≡ next
Run R at (x ∷ xs) next = (m : ℕ) × (at < m) × R at (found x m) × Run R m xs next

pub record IsRun {A : Type 0} (R : Reads A) (T : List Token) (from : ℕ) (xs : List A) (next : ℕ) : Type 0 where
  pub run : Run R from xs next
  pub ends : Refuses R next
  pub within : next ≤ length T

abbrev pub AnswersAll : {A : Type 0} → Reads A → List Token → ℕ → Result (Piece (Bor (List A))) ParseFault → Type 0
AnswersAll R T from (Ok p) = IsRun R T from p.value.now p.next
AnswersAll R T from (Err e) = e ≡ Memory

-- parts behind separators
unfoldable pub Between : {A : Type 0} → Reads A → List Token → ℕ → List Bool → List A → ℕ → Type 0
Between R T at [] [] next = at ≡ next
Between R T at [] (x ∷ xs) next = ⊥
Between R T at (c ∷ cs) [] next = ⊥
Between R T at (c ∷ cs) (x ∷ xs) next = (s : ℕ) × (m : ℕ) × Finds separator_of T at c s × R s (found x m) × Between R T m cs xs next

-- one part or more, with separators between
unfoldable pub Alternate : {A : Type 0} → Reads A → List Token → ℕ → List Bool → List A → ℕ → Type 0
Alternate R T at cs [] next = ⊥
Alternate R T at cs (x ∷ xs) next = (m : ℕ) × R at (found x m) × Between R T m cs xs next

-- no separator stands at the token, or none with a part behind it
pub record Closes {A : Type 0} (R : Reads A) (T : List Token) (at : ℕ) : Type 0 where
  pub none : (c : Bool) (s : ℕ) → Finds separator_of T at c s → Refuses R s

pub record IsSeparated {A : Type 0} (R : Reads A) (T : List Token) (from : ℕ) (cs : List Bool) (xs : List A) (next : ℕ) : Type 0 where
  pub parts : Alternate R T from cs xs next
  pub ends : Closes R T next
  pub within : next ≤ length T

abbrev pub AnswersSeparated : {A : Type 0} → Reads A → List Token → ℕ → Result (Piece (Separated A)) ParseFault → Type 0
AnswersSeparated R T from (Ok p) = IsSeparated R T from p.value.commas.now p.value.list.now p.next
AnswersSeparated R T from (Err e) = (e ≡ Memory) ⊎ R from (Err e)
