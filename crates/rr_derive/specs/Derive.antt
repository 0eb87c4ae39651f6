-- proof lines, and the hint check (LRAT without RAT lines: L. Cruz-Filipe, M. J. H. Heule, W. A. Hunt,
-- M. Kaufmann, P. Schneider-Kamp, "Efficient certified RAT verification", 2017)
use Rattle.std.specs.Prelude.{◌≡◌, ℕ, ◌+◌, ◌-◌, IfSome, None, Option, ◌<◌, ◌≤◌, ◌⊎◌, List, [], ◌∷◌, ◌++◌, length, map, take, slice_get, slice_index_or, Some, All, Contains}
use Rattle.rr_cnf.specs.Clauses.{IsUnsatisfiable, Literal, negated}
use Rattle.rr_cnf.specs.Partial.{IsFalse, IsUnit}

-- a line of a proof
pub record Step : Type 0 where
  pub id : ℕ
  pub clause : List Literal
  pub hints : List ℕ

-- a proof: its lines, whose ids begin at first or above
pub record Proof : Type 0 where
  pub first : ℕ
  pub lines : List Step

-- the ids rise strictly
abbrev pub IsRising : List Step → Type 0
IsRising lines = (j k : ℕ) (d e : Step) → j < k → k < length lines → (slice_index_or lines j d).id < (slice_index_or lines k e).id

-- the next id: the first, or one above the last
abbrev pub next_after : ℕ → Option Step → ℕ
next_after first None = first
next_after first (Some s) = s.id + 1

abbrev pub next_id : Proof → ℕ
next_id p = next_after p.first (slice_get p.lines (length p.lines - 1))

-- the last id, where there is one, is below n
abbrev pub IsLastBelow : ℕ → List Step → Type 0
IsLastBelow n lines = IfSome (slice_get lines (length lines - 1)) (λ s. s.id < n)

-- the id names this clause: a clause of the formula, or the clause of one of the lines
abbrev pub Names : List (List Literal) → List Step → ℕ → List Literal → Type 0
Names formula lines id c =
    ((1 ≤ id) × (slice_get formula (id - 1) ≡ Some c))
    ⊎ ((s : Step) × (Contains lines s × (s.id ≡ id) × (s.clause ≡ c)))

-- the hints lead from these true literals to a false clause
abbrev pub Leads : (ℕ → List Literal → Type 0) → List Literal → List ℕ → Type 0
Leads named held [] = ⊥
Leads named held (h ∷ hs) =
    (c : List Literal) × (named h c × (IsFalse held c ⊎ ((l : Literal) × (IsUnit held c l × Leads named (held ++ l ∷ []) hs))))

-- no literal stands beside its negation
abbrev pub IsNoTautology : List Literal → Type 0
IsNoTautology c = All (λ l. Contains c (negated l) → ⊥) c

-- the hint check
abbrev pub Passes : (ℕ → List Literal → Type 0) → List Literal → List ℕ → Type 0
Passes named c hints = IsNoTautology c × Leads named (map negated c) hints

-- the line at k passes, against the formula and the lines before it
abbrev pub PassesAt : List (List Literal) → List Step → ℕ → Type 0
PassesAt formula lines k = (d : Step) → Passes (Names formula (take k lines)) (slice_index_or lines k d).clause (slice_index_or lines k d).hints

-- every line passes
abbrev pub Derives : List (List Literal) → List Step → Type 0
Derives formula lines = (k : ℕ) → k < length lines → PassesAt formula lines k

-- every line passes, and one has the empty clause
abbrev pub Refutes : List (List Literal) → List Step → Type 0
Refutes formula lines = Derives formula lines × ((s : Step) × (Contains lines s × (s.clause ≡ [])))

abbrev pub RefutedMeansUnsatisfiable : Type 0
RefutedMeansUnsatisfiable = (formula : List (List Literal)) (lines : List Step) → Refutes formula lines → IsUnsatisfiable formula
