-- partial assignments: the list of the literals that are true
use Rattle.std.specs.Prelude.{◌≡◌, ℕ, ◌≤◌, ◌⊎◌, true, false, List, All, Contains}
use Rattle.rr_cnf.specs.Clauses.{Literal, Clauses, negated}

-- each literal of the clause is false
abbrev pub IsFalse : List Literal → List Literal → Type 0
IsFalse held c = All (λ l. Contains held (negated l)) c

-- one literal of the clause is open, and each other literal in it is false; a literal that stands
-- there twice counts once
pub record IsUnit (held : List Literal) (c : List Literal) (l : Literal) : Type 0 where
  pub member : Contains c l
  pub not_true : Contains held l → ⊥
  pub not_false : Contains held (negated l) → ⊥
  pub others : All (λ m. (m ≡ l) ⊎ Contains held (negated m)) c

-- no clause is false, and none is unit
abbrev pub IsQuiet : List (List Literal) → List Literal → Type 0
IsQuiet clauses held = (c : List Literal) → Contains clauses c → (IsFalse held c → ⊥) × ((l : Literal) → IsUnit held c l → ⊥)

-- the variable is true or false
abbrev pub IsAssigned : List Literal → ℕ → Type 0
IsAssigned held v = Contains held (record { var = v; negative = false }) ⊎ Contains held (record { var = v; negative = true })

-- a quiet assignment that has the variables 1 to n has all variables of the formula
abbrev pub Determined : Clauses → ℕ → Type 0
Determined f n = (held : List Literal) → IsQuiet f.clauses held
    → ((v : ℕ) → 1 ≤ v → v ≤ n → IsAssigned held v)
    → (v : ℕ) → 1 ≤ v → v ≤ f.vars → IsAssigned held v
