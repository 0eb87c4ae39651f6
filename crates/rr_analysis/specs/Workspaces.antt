-- what the walk back from a conflict keeps: marks of variables, and the places in the trail that wait to be
-- walked over, all below the place where the walk stands
use Rattle.std.specs.Prelude.{◌≡◌, ℕ, ◌+◌, ◌<◌, ◌≤◌, ◌==◌, ◌⊎◌, Bool, true, false, cond, List, [], ◌∷◌, length, get_or, set, All}
use Rattle.std.specs.List.{sum_by}
use Rattle.std.specs.List.Sorted.{IsPermutation}
use Rattle.rr_cnf.specs.Clauses.{Literal}
use Rattle.rr_analysis.specs.Analysis.{IsMarked, Marked}

pub record Work : Type 0 where
  pub seen : List Bool
  pub waiting : List ℕ
  pub top : ℕ

-- the variable of the literal at this place
abbrev pub var_at : List Literal → ℕ → ℕ
var_at ls k = (get_or ls k (record { var = 0; negative = false })).var

-- where a literal of the list has the variable, it stands at this place
abbrev pub IsPlaceOf : List Literal → ℕ → ℕ → Type 0
IsPlaceOf ls v p = (j : ℕ) → j < length ls → var_at ls j ≡ v → p ≡ j

-- different places have different variables
abbrev pub HaveOwnVars : List Literal → Type 0
HaveOwnVars ls = (j k : ℕ) → j < length ls → k < length ls → var_at ls j ≡ var_at ls k → j ≡ k

-- how often the number stands in the list
abbrev pub copies : List ℕ → ℕ → ℕ
copies xs j = sum_by (λ i. cond (i == j) 1 0) xs

-- the places below k of marked variables wait, each once, and no others
pub record Waits (ls : List Literal) (k : ℕ) (seen : List Bool) (waiting : List ℕ) : Type 0 where
  pub each : (j : ℕ) → j < k → IsMarked seen (var_at ls j) → copies waiting j ≡ 1
  pub only : (j : ℕ) → 1 ≤ copies waiting j → (j < k) × IsMarked seen (var_at ls j)

-- nothing is marked, and the walk stands behind so many literals
pub record IsBegun (n : ℕ) (old new : Work) : Type 0 where
  pub long : length new.seen ≡ length old.seen
  pub none : (v : ℕ) → IsMarked new.seen v → ⊥
  pub waiting : new.waiting ≡ []
  pub top : new.top ≡ n

-- a variable is marked, and its place waits if it was not
pub record Meets (ls : List Literal) (old : Work) (v : ℕ) (new : Work) : Type 0 where
  pub seen : new.seen ≡ set old.seen v true
  pub waiting : (IsMarked old.seen v × (new.waiting ≡ old.waiting)) ⊎ ((IsMarked old.seen v → ⊥) × ((p : ℕ) × (IsPlaceOf ls v p × IsPermutation (p ∷ old.waiting) new.waiting)))

-- what a conflict asks of the workspace: a mark for each variable
abbrev pub IsReady : ℕ → Work → Type 0
IsReady vars w = length w.seen ≡ vars + 1

-- the place of the walk stays
pub record KeepsWalk (old new : Work) : Type 0 where
  pub long : length new.seen ≡ length old.seen
  pub top : new.top ≡ old.top

-- the variable is marked, or stands below k
abbrev pub StandsBelow : List Literal → ℕ → List Bool → ℕ → Type 0
StandsBelow ls k seen v = IsMarked seen v ⊎ ((j : ℕ) × ((j < k) × (var_at ls j ≡ v)))

-- the variables of a clause are marked, and their places wait
pub record Met (ls : List Literal) (old : Work) (c : List Literal) (new : Work) : Type 0 where
  pub marked : Marked old.seen c new.seen
  pub waits : (k : ℕ) → k ≤ length ls → HaveOwnVars ls → All (λ l. StandsBelow ls k old.seen l.var) c → Waits ls k old.seen old.waiting → Waits ls k new.seen new.waiting

-- the last place that waited
pub record PopsLast (old : Work) (p : ℕ) (new : Work) : Type 0 where
  pub seen : new.seen ≡ old.seen
  pub top : new.top ≡ p
  pub taken : IsPermutation old.waiting (p ∷ new.waiting)
  pub last : All (λ j. j ≤ p) new.waiting
