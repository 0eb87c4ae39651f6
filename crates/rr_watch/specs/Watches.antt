-- clauses under a trail
use Rattle.std.specs.Prelude.{◌≡◌, ℕ, ◌<◌, ◌⊎◌, List, length, get_or, map, All, Contains}
use Rattle.rr_cnf.specs.Clauses.{Literal, negated, IsWithin}
use Rattle.rr_cnf.specs.Partial.{IsFalse, IsQuiet, IsUnit}
use Rattle.rr_trail.specs.Trails.{Entry, IsCut, entry, lits}
use Rattle.rr_watch_lists.specs.Numbers.{Numbered}
use Rattle.rr_watch.specs.declared.watch.Propagated.{Propagated}
use Rattle.rr_watch.specs.declared.watch.Propagated.TheVariants.{Quiet, Conflict}

-- the id names this clause
abbrev pub Named : List Numbered → ℕ → List Literal → Type 0
Named clauses id c = Contains clauses (record { id = id; clause = c })

-- the clauses alone
abbrev pub bare : List Numbered → List (List Literal)
bare clauses = map (λ n. n.clause) clauses

-- the clause has this literal and one other, and no third
pub record IsPair (l : Literal) (c : List Literal) : Type 0 where
  pub other : Literal
  pub apart : l ≡ other → ⊥
  pub has_one : Contains c l
  pub has_other : Contains c other
  pub no_third : All (λ m. (m ≡ l) ⊎ (m ≡ other)) c

-- clauses over the variables 1 to vars, and a trail with as many decisions as depth says
pub record State : Type 0 where
  pub vars : ℕ
  pub clauses : List Numbered
  pub trail : List Entry
  pub depth : ℕ

-- what propagation says of the clauses, under the trail that it leaves
abbrev pub PropagatedIs : List Numbered → List Literal → Propagated → Type 0
PropagatedIs clauses held Quiet = IsQuiet (bare clauses) held
PropagatedIs clauses held (Conflict id) = (c : List Literal) × (Named clauses id c × IsFalse held c)

-- some literal of the clause is false since the last decision
pub record HasLate (t : List Entry) (depth : ℕ) (c : List Literal) : Type 0 where
  pub place : ℕ
  pub inside : place < length t
  pub member : Contains c (negated (entry t place).lit)
  pub level : (entry t place).level ≡ depth

-- one literal of the clause is open and the others are false, one of them, where there are others,
-- since the last decision
pub record Asserts (t : List Entry) (depth : ℕ) (c : List Literal) : Type 0 where
  pub lit : Literal
  pub unit : IsUnit (lits t) c lit
  pub late : All (λ m. m ≡ lit) c ⊎ HasLate t depth c

-- when a clause may be added
abbrev pub MayAdd : List Entry → ℕ → List Literal → Type 0
MayAdd t depth c = (depth ≡ 0) ⊎ Asserts t depth c

-- the new state has the levels up to this one
pub record IsBack (old new : State) (level : ℕ) : Type 0 where
  pub vars : new.vars ≡ old.vars
  pub clauses : new.clauses ≡ old.clauses
  pub depth : new.depth ≡ level
  pub cut : IsCut old.trail new.trail level

-- the clauses are over the variables 1 to vars, and their ids rise
pub record AreHeld (vars : ℕ) (clauses : List Numbered) : Type 0 where
  pub within : All (λ n. All (IsWithin vars) n.clause) clauses
  pub rising : (j k : ℕ) (d e : Numbered) → j < k → k < length clauses → (get_or clauses j d).id < (get_or clauses k e).id
