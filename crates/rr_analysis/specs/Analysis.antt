-- the clause that is learned from a false clause
use Rattle.std.specs.Prelude.{◌≡◌, ℕ, ◌<◌, ◌≤◌, ◌⊎◌, Bool, true, false, List, length, get_or, map, All, Contains, Option, Some, None}
use Rattle.rr_cnf.specs.Clauses.{Literal, negated, IsWithin}
use Rattle.rr_cnf.specs.Partial.{IsFalse}
use Rattle.rr_derive.specs.Derive.{Passes}
use Rattle.rr_derive.specs.Fresh.{Hinted}
use Rattle.rr_trail.specs.Trails.{Entry, lits, entry}
use Rattle.rr_watch.specs.Watches.{State, Named}

abbrev pub IsMarked : List Bool → ℕ → Type 0
IsMarked seen v = get_or seen v false ≡ true

-- the variables of the clause are marked, and no others were added
pub record Marked (old : List Bool) (c : List Literal) (new : List Bool) : Type 0 where
  pub long : length new ≡ length old
  pub kept : (v : ℕ) → IsMarked old v → IsMarked new v
  pub all : (m : Literal) → Contains c m → IsMarked new m.var
  pub only : (v : ℕ) → IsMarked new v → IsMarked old v ⊎ ((m : Literal) × (Contains c m × (m.var ≡ v)))

-- the literal is the negation of one on the trail, at this place or above, which was decided, or has a
-- level between 0 and the last
pub record Kept (t : List Entry) (depth : ℕ) (from : ℕ) (m : Literal) : Type 0 where
  pub place : ℕ
  pub low : from ≤ place
  pub inside : place < length t
  pub is : (entry t place).lit ≡ negated m
  pub level : 1 ≤ (entry t place).level
  pub why : ((entry t place).level < depth) ⊎ ((entry t place).reason ≡ None)

-- the literal is the negation of one on the trail, at this place or above, of which this is known
pub record KeptBy (t : List Entry) (why : Entry → Type 0) (from : ℕ) (m : Literal) : Type 0 where
  pub place : ℕ
  pub low : from ≤ place
  pub inside : place < length t
  pub is : (entry t place).lit ≡ negated m
  pub known : why (entry t place)

-- the level is the greatest of the clause's literals below the last level
pub record Greatest (t : List Entry) (depth : ℕ) (clause : List Literal) (level : ℕ) : Type 0 where
  pub bound : (m : Literal) → Contains clause m → (j : ℕ) → j < length t → (entry t j).lit ≡ negated m → (entry t j).level < depth → (entry t j).level ≤ level
  pub is : (level ≡ 0) ⊎ ((m : Literal) × (Contains clause m × ((j : ℕ) × ((j < length t) × ((entry t j).lit ≡ negated m) × ((entry t j).level ≡ level) × (level < depth)))))

abbrev pub AreNamed : (ℕ → List Literal → Type 0) → List ℕ → Type 0
AreNamed named hints = All (λ h. (c : List Literal) × named h c) hints

-- a clause that passes the hint check, whose hints name clauses
pub record IsDerived (s : State) (clause : List Literal) (hints : List ℕ) : Type 0 where
  pub passes : Passes (Named s.clauses) clause hints
  pub named : AreNamed (Named s.clauses) hints
  pub within : All (IsWithin s.vars) clause

-- what is learned: a clause that passes the hint check, whose hints name clauses and whose literals stand
-- in hinted ones, and the level to go back to
pub record Learns (s : State) (clause : List Literal) (hints : List ℕ) (level : ℕ) : Type 0 where
  pub passes : Passes (Named s.clauses) clause hints
  pub hinted : (l : Literal) → Contains clause l → Hinted (Named s.clauses) (map negated clause) hints l
  pub named : AreNamed (Named s.clauses) hints
  pub kept : (m : Literal) → Contains clause m → Kept s.trail s.depth 0 m
  pub greatest : Greatest s.trail s.depth clause level
  pub within : All (IsWithin s.vars) clause

-- the reason to resolve a literal of the trail with, if it is not to be kept
pub record Resolves (t : List Entry) (depth : ℕ) (l : Literal) (r : Option ℕ) : Type 0 where
  pub some : (id : ℕ) → r ≡ Some id → (k : ℕ) → k < length t → (entry t k).lit.var ≡ l.var → (entry t k).reason ≡ Some id
  pub none : r ≡ None → (k : ℕ) → k < length t → (entry t k).lit.var ≡ l.var → (1 ≤ (entry t k).level) × (((entry t k).level < depth) ⊎ ((entry t k).reason ≡ None))

-- the reason to resolve a literal of the trail with
pub record ResolvesBy (t : List Entry) (l : Literal) (r : Option ℕ) : Type 0 where
  pub some : (id : ℕ) → r ≡ Some id → (k : ℕ) → k < length t → (entry t k).lit.var ≡ l.var → (entry t k).reason ≡ Some id

-- the id names a clause whose literals are all false
abbrev pub IsConflict : State → ℕ → Type 0
IsConflict s id = (c : List Literal) × (Named s.clauses id c × IsFalse (lits s.trail) c)
