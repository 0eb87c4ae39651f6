-- trails of decisions and of literals that clauses force
use Rattle.std.specs.Prelude.{◌≡◌, ℕ, ◌+◌, ◌<◌, ◌≤◌, ◌⊎◌, false, cond, is_some, List, length, get_or, take, map, All, Contains, Option, Some, None}
use Rattle.std.specs.List.{sum_by}
use Rattle.rr_cnf.specs.Clauses.{Literal, negated}

-- a literal that is true, the number of decisions up to it, and the id of the clause that forces it, if
-- it was not decided
pub record Entry : Type 0 where
  pub lit : Literal
  pub level : ℕ
  pub reason : Option ℕ

-- the literals that are true, oldest first
abbrev pub lits : List Entry → List Literal
lits t = map (λ e. e.lit) t

-- the entry at this place
abbrev pub entry : List Entry → ℕ → Entry
entry t k = get_or t k (record { lit = record { var = 0; negative = false }; level = 0; reason = None })

-- the number of decided entries
abbrev pub decisions : List Entry → ℕ
decisions t = sum_by (λ e. cond (is_some e.reason) 0 1) t

-- the last decision of a level
pub record Decision (t : List Entry) (n : ℕ) : Type 0 where
  pub place : ℕ
  pub inside : place < length t
  pub decided : (entry t place).reason ≡ None
  pub level : (entry t place).level ≡ n

-- different variables, and levels that count the decisions
pub record IsTrail (t : List Entry) (depth : ℕ) : Type 0 where
  pub apart : (j k : ℕ) → j < k → k < length t → (entry t j).lit.var ≡ (entry t k).lit.var → ⊥
  pub counted : (k : ℕ) → k < length t → (entry t k).level ≡ decisions (take (k + 1) t)
  pub deep : depth ≡ decisions t
  pub rising : (j k : ℕ) → j < k → k < length t → (entry t j).level ≤ (entry t k).level
  pub opened : (k : ℕ) → k < length t → (entry t k).reason ≡ None → (1 ≤ (entry t k).level) × ((j : ℕ) → j < k → (entry t j).level < (entry t k).level)
  pub below : (k : ℕ) → k < length t → (entry t k).level ≤ depth
  pub begun : (n : ℕ) → 1 ≤ n → n ≤ depth → Decision t n

-- the clause has the literal, and its other literals are false
pub record Forces (held : List Literal) (c : List Literal) (l : Literal) : Type 0 where
  pub member : Contains c l
  pub others : All (λ m. (m ≡ l) ⊎ Contains held (negated m)) c

-- the literal at this place was forced by the clause that the id names
pub record Reason (named : ℕ → List Literal → Type 0) (t : List Entry) (k : ℕ) (id : ℕ) : Type 0 where
  pub clause : List Literal
  pub name : named id clause
  pub forces : Forces (lits (take k t)) clause (entry t k).lit

-- each literal that was not decided has its reason
abbrev pub AreForced : (ℕ → List Literal → Type 0) → List Entry → Type 0
AreForced named t = (k id : ℕ) → k < length t → (entry t k).reason ≡ Some id → Reason named t k id

-- the new trail is the old one and forced literals after it
pub record Grown (old new : List Entry) : Type 0 where
  pub longer : length old ≤ length new
  pub same : take (length old) new ≡ old
  pub forced : (k : ℕ) → length old ≤ k → k < length new → (entry new k).reason ≡ None → ⊥

-- the new trail has the levels up to this one
pub record IsCut (old new : List Entry) (level : ℕ) : Type 0 where
  pub shorter : length new ≤ length old
  pub front : new ≡ take (length new) old
  pub undone : (k : ℕ) → length new ≤ k → k < length old → level < (entry old k).level

-- a trail over the variables 1 to vars
pub record Standing : Type 0 where
  pub vars : ℕ
  pub entries : List Entry
  pub depth : ℕ

pub record IsCutBack (old new : Standing) (level : ℕ) : Type 0 where
  pub vars : new.vars ≡ old.vars
  pub depth : new.depth ≡ level
  pub cut : IsCut old.entries new.entries level

-- a decided entry begins a level, and one with a reason has the last level
abbrev pub MayStand : ℕ → Entry → Type 0
MayStand depth e =
    ((e.reason ≡ None) × (e.level ≡ depth + 1))
    ⊎ ((e.level ≡ depth) × ((id : ℕ) × (e.reason ≡ Some id)))
