-- a search, as its callers see it
use Rattle.std.specs.Prelude.{◌≡◌, ℕ, ◌+◌, ◌-◌, ◌<◌, ◌≤◌, Bool, false, List, [], ◌∷◌, ◌++◌, length, get_or, take, map, filter, nat_lt, All, Contains}
use Rattle.rr_cnf.specs.Clauses.{Clauses, Literal, Satisfies, IsWithin}
use Rattle.rr_derive.specs.Derive.{Step, Passes}
use Rattle.rr_derive.specs.Fresh.{Handed, NamesAtHand, IsFreshLine}
use Rattle.rr_solver.specs.declared.engine.Status.{Status}
use Rattle.rr_solver.specs.declared.engine.Status.TheVariants.{Running, Model, Refuted}
use Rattle.rr_solver.specs.declared.engine.Stepped.{Stepped}
use Rattle.rr_solver.specs.declared.engine.Stepped.TheVariants.{Learned as HasLearned, Model as HasModel, Refuted as HasRefuted}

-- a formula, of which the variables up to `inputs` are decided, the lines that were learned, the clauses
-- that were handed over, the number of decisions that stand, and the values of the variables
pub record Search : Type 0 where
  pub formula : Clauses
  pub inputs : ℕ
  pub lines : List Step
  pub handed : List Handed
  pub depth : ℕ
  pub status : Status
  pub bits : List Bool

abbrev pub line : List Step → ℕ → Step
line lines k = get_or lines k (record { id = 0; clause = []; hints = [] })

-- the value of a variable
abbrev pub given : List Bool → ℕ → Bool
given bits v = get_or bits v false

-- a value for each variable, by its number, that satisfies the formula
pub record IsModel (f : Clauses) (bits : List Bool) : Type 0 where
  pub long : length bits ≡ f.vars + 1
  pub satisfies : Satisfies (given bits) f.clauses

-- above the ids of the formula, of the lines, and of what was handed over
pub record IsNewId (f : Clauses) (ss : List Step) (hs : List Handed) (id : ℕ) : Type 0 where
  pub formula : length f.clauses < id
  pub lines : All (λ s. s.id < id) ss
  pub handed : All (λ h. h.id < id) hs

-- the clause that was handed over at this place
abbrev pub handed_over : List Handed → ℕ → Handed
handed_over hs k = get_or hs k (record { id = 0; clause = [] })

-- ids above those of the formula, which rise for the lines, rise for what was handed over, and are
-- different for a line and what was handed over
pub record HaveOwnIds (f : Clauses) (ss : List Step) (hs : List Handed) : Type 0 where
  pub lines_above : All (λ s. length f.clauses < s.id) ss
  pub handed_above : All (λ h. length f.clauses < h.id) hs
  pub lines_rise : (j k : ℕ) → j < k → k < length ss → (line ss j).id < (line ss k).id
  pub handed_rise : (j k : ℕ) → j < k → k < length hs → (handed_over hs j).id < (handed_over hs k).id
  pub differ : (s : Step) (h : Handed) → Contains ss s → Contains hs h → s.id ≡ h.id → ⊥

-- what was handed over under an id below n
abbrev pub before : ℕ → List Handed → List Handed
before n handed = filter (λ h. nat_lt h.id n) handed

-- for each line, what was handed over before it
abbrev pub held_of : List Handed → List Step → List (List Handed)
held_of handed lines = map (λ s. before s.id handed) lines

-- the line passes the hint check after the earlier lines and what was handed over
abbrev pub PassesAfter : Clauses → List Step → List Handed → Step → Type 0
PassesAfter f earlier handed s = Passes (NamesAtHand f.clauses earlier handed) s.clause s.hints

-- each hint of the line is at least 1, and names a clause of the formula, of an earlier line, or one that
-- was handed over
abbrev pub NamesAll : Clauses → List Step → List Handed → Step → Type 0
NamesAll f earlier handed s = All (λ h. (1 ≤ h) × ((c : List Literal) × NamesAtHand f.clauses earlier handed h c)) s.hints

abbrev pub IsFreshAfter : Clauses → ℕ → List Step → List Handed → Step → Type 0
IsFreshAfter f inputs earlier handed s = IsFreshLine f.clauses inputs earlier handed s

-- what the lines are: each passes, its hints name clauses at hand, and each is fresh, but for the empty
-- clause that ends a refutation
pub record IsLog (f : Clauses) (inputs : ℕ) (handed : List Handed) (lines : List Step) (status : Status) (bits : List Bool) : Type 0 where
  pub above : All (λ s. length f.clauses < s.id) lines
  pub within : All (λ s. All (IsWithin f.vars) s.clause) lines
  pub passes : (k : ℕ) → k < length lines → PassesAfter f (take k lines) (before (line lines k).id handed) (line lines k)
  pub hints : (k : ℕ) → k < length lines → NamesAll f (take k lines) (before (line lines k).id handed) (line lines k)
  pub fresh : (k : ℕ) → k < length lines → (status ≡ Refuted → k + 1 < length lines) → IsFreshAfter f inputs (take k lines) (before (line lines k).id handed) (line lines k)
  pub refuted : status ≡ Refuted → (1 ≤ length lines) × ((line lines (length lines - 1)).clause ≡ [])
  pub model : status ≡ Model → IsModel f bits

abbrev pub IsLogOf : Search → Type 0
IsLogOf s = IsLog s.formula s.inputs s.handed s.lines s.status s.bits

-- the question and what was handed over stay
pub record Same (old new : Search) : Type 0 where
  pub formula : new.formula ≡ old.formula
  pub inputs : new.inputs ≡ old.inputs
  pub handed : new.handed ≡ old.handed

-- one line more, under a new id, which passes, and whose hints name clauses at hand
pub record Adds (f : Clauses) (ls : List Step) (hs : List Handed) (more : List Step) : Type 0 where
  pub added : Step
  pub lines : more ≡ ls ++ added ∷ []
  pub id : IsNewId f ls hs added.id
  pub within : All (IsWithin f.vars) added.clause
  pub passes : PassesAfter f ls hs added
  pub hints : NamesAll f ls hs added

-- what a step did
abbrev pub SteppedIs : Search → Search → Stepped → Type 0
SteppedIs old new HasLearned = (new.status ≡ Running) × ((a : Adds old.formula old.lines old.handed new.lines) × IsFreshAfter old.formula old.inputs old.lines old.handed a.added)
SteppedIs old new HasModel = (new.status ≡ Model) × (new.lines ≡ old.lines) × IsModel old.formula new.bits
SteppedIs old new HasRefuted = (new.status ≡ Refuted) × ((a : Adds old.formula old.lines old.handed new.lines) × (a.added.clause ≡ []))
