-- the marks of a workspace: which literals are true, under the newest stamp
use Rattle.std.specs.Prelude.{◌≡◌, ℕ, ◌+◌, ◌*◌, ◌⊎◌, ◌<◌, cond, List, length, slice_index, All, Contains, Option, Some, None}
use Rattle.rr_cnf.specs.Clauses.{Literal, negated}
use Rattle.rr_derive.specs.declared.check.Seen.{Seen}
use Rattle.rr_derive.specs.declared.check.Seen.TheVariants.{Conflict, Unit as OneOpen, Other}

abbrev pub mark_of : ℕ → Literal → ℕ
mark_of stamp l = 2 * stamp + cond l.negative 1 0

abbrev pub MarkedTrue : List ℕ → ℕ → Literal → Type 0
MarkedTrue marks stamp l = slice_index marks l.var ≡ mark_of stamp l

abbrev pub MarkedFalse : List ℕ → ℕ → Literal → Type 0
MarkedFalse marks stamp l = MarkedTrue marks stamp (negated l)

abbrev pub Unmarked : List ℕ → ℕ → Literal → Type 0
Unmarked marks stamp l = (MarkedTrue marks stamp l → ⊥) × (MarkedFalse marks stamp l → ⊥)

-- all literals are false but for the one open literal, if there is one
abbrev pub OpenIn : List ℕ → ℕ → List Literal → Option Literal → Type 0
OpenIn marks stamp c None = All (MarkedFalse marks stamp) c
OpenIn marks stamp c (Some l) = Contains c l × Unmarked marks stamp l × All (λ m. (m ≡ l) ⊎ MarkedFalse marks stamp m) c

-- what a look at a clause says
abbrev pub SeenIs : List ℕ → ℕ → List Literal → Seen → Type 0
SeenIs marks stamp c Conflict = OpenIn marks stamp c None
SeenIs marks stamp c (OneOpen l) = OpenIn marks stamp c (Some l)
SeenIs marks stamp c Other =
    ((l : Literal) × (Contains c l × MarkedTrue marks stamp l))
    ⊎ ((l : Literal) × ((m : Literal) × (Contains c l × Contains c m × Unmarked marks stamp l × Unmarked marks stamp m × (l ≡ m → ⊥))))

-- the marks are those of these true literals
pub record Represents (marks : List ℕ) (stamp : ℕ) (held : List Literal) : Type 0 where
  pub marked : (l : Literal) → l.var < length marks → Contains held l → MarkedTrue marks stamp l
  pub holds : (l : Literal) → l.var < length marks → MarkedTrue marks stamp l → Contains held l
