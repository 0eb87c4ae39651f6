-- Lists that are read part by part with commas between, where R says what reading at a token may answer.
use Rattle.std.specs.Prelude.{ℕ, ◌+◌, ◌≡◌, ◌≤◌, List, [], ◌∷◌, length, drop, Result, Ok, Err, Some, ◌⊎◌}
use Rattle.rr_syntax.specs.declared.token.Token.{Token}
use Rattle.rr_syntax.specs.Words.{words, mark_comma}
use Rattle.rr_parse_expr.specs.Fronts.{front_mark}
use Rattle.rr_parse_expr.specs.declared.expression.ParseFault.{ParseFault}
use Rattle.rr_parse_expr.specs.declared.expression.ParseFault.TheVariants.{Memory}
use Rattle.rr_parse_expr.specs.declared.lists.Piece.{Piece}
use denote.Ref.{Bor}

abbrev pub Reads : Type 0 → Type 1
Reads A = ℕ → Result (Piece A) ParseFault → Type 0

-- this part ends before the token `next`
abbrev pub found : {A : Type 0} → A → ℕ → Result (Piece A) ParseFault
found x next = Ok (record { value = x; next = next })

-- no part is read at the token, and not for want of memory
pub record Refuses {A : Type 0} (R : Reads A) (at : ℕ) : Type 0 where
  pub fault : ParseFault
  pub cause : fault ≡ Memory → ⊥
  pub answered : R at (Err fault)

abbrev pub comma_at : List Token → ℕ → Type 0
comma_at T at = front_mark (drop at (words T)) ≡ Some (record { 0 = mark_comma })

-- parts behind commas, from the token `at` up to the token `next`
unfoldable pub Behind : {A : Type 0} → Reads A → List Token → ℕ → List A → ℕ → Type 0
Behind R T at [] next = at ≡ next
Behind R T at (x ∷ xs) next = (m : ℕ) × comma_at T at × R (at + 1) (found x m) × Behind R T m xs next

-- one part or more, with commas between
unfoldable pub Row : {A : Type 0} → Reads A → List Token → ℕ → List A → ℕ → Type 0
Row R T at [] next = ⊥
Row R T at (x ∷ xs) next = (m : ℕ) × R at (found x m) × Behind R T m xs next

-- they go on as far as they can
pub record IsList {A : Type 0} (R : Reads A) (T : List Token) (from : ℕ) (xs : List A) (next : ℕ) : Type 0 where
  pub row : Row R T from xs next
  pub ends : comma_at T next → Refuses R (next + 1)
  pub within : next ≤ length T

-- the list, or the fault of the first part; want of memory is free
abbrev pub AnswersList : {A : Type 0} → Reads A → List Token → ℕ → Result (Piece (Bor (List A))) ParseFault → Type 0
AnswersList R T from (Ok p) = IsList R T from p.value.now p.next
AnswersList R T from (Err e) = (e ≡ Memory) ⊎ R from (Err e)
