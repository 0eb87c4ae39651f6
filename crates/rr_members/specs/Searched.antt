-- how a search by members ends
use Rattle.std.specs.Prelude.{◌≡◌, ◌⊎◌, ℕ, ◌+◌, ◌-◌, ◌*◌, ◌^◌, ◌<◌, ◌≤◌, min, List, length}
use Rattle.rr_cnf.specs.Clauses.{Clauses}
use Rattle.rr_derive.specs.Derive.{Derives, Refutes, Step}
use Rattle.rr_derive.specs.Fresh.{Fresh}
use Rattle.rr_derive.specs.Lrat.{AreWritable}
use Rattle.rr_solver.specs.Searches.{IsModel, held_of}
use Rattle.rr_solver.specs.declared.outcome.Outcome.{Outcome}
use Rattle.rr_solver.specs.declared.outcome.Outcome.TheVariants.{Model as Solved, Refuted as Unsolvable, Spent}
use Rattle.rr_rounds.specs.States.{emptied, Ending, State, handed, member, steps}
use Rattle.rr_rounds.specs.Joined.{joined, joined_with}
use Rattle.rr_rounds.specs.Rounds.{IsRound, start}
use Rattle.rr_members.specs.Groups.{IsFirst, NoneEnded}

-- rounds of 256 events, or of as many as the budget still allows, after which so many are spent
pub data Played (f : Clauses) (inputs count budget : ℕ) : ℕ → State → Type 0 where
  begun : Played f inputs count budget 0 (start count)
  next : (spent : ℕ) (old new : State) → Played f inputs count budget spent old → IsRound f inputs (min (budget - spent) 256) old new → Played f inputs count budget (spent + min (budget - spent) 256) new

-- the budget is spent: each member has learned exactly as many lines, all fresh, and the journal is the
-- joined one, which derives from the formula
pub record IsSpent (f : Clauses) (inputs count budget : ℕ) (lines : List Step) : Type 0 where
  pub state : State
  pub played : Played f inputs count budget budget state
  pub size : length state.members ≡ count
  pub going : NoneEnded state
  pub each : (m : ℕ) → m < count → length (member state m).lines ≡ budget
  pub total : length lines ≡ count * budget
  pub fresh : (m : ℕ) → m < count → Fresh f.clauses inputs (held_of (handed (member state m)) (steps (member state m))) (steps (member state m))
  pub journal : lines ≡ joined f state
  pub derives : Derives f.clauses lines
  pub few : budget ≤ inputs * 3 ^ inputs
  pub lawful : AreWritable f lines

-- a satisfying assignment, or a refutation of at most so many lines
abbrev pub IsFreeEnd : Clauses → ℕ → Outcome → Type 0
IsFreeEnd f budget (Solved bits) = IsModel f bits.items
IsFreeEnd f budget (Unsolvable j) = Refutes f.clauses j.lines × AreWritable f j.lines × (length j.lines ≤ budget)
IsFreeEnd f budget (Spent j) = ⊥

-- a satisfying assignment, a refutation, or the budget spent
abbrev pub SearchedIs : Clauses → ℕ → ℕ → ℕ → Outcome → Type 0
SearchedIs f inputs count budget (Solved bits) = IsModel f bits.items
SearchedIs f inputs count budget (Unsolvable j) = Refutes f.clauses j.lines × AreWritable f j.lines
SearchedIs f inputs count budget (Spent j) = IsSpent f inputs count budget j.lines

-- a member has ended so in a round of at most as many events as the budget still allows, and none with a lower number
pub record HasEnded (f : Clauses) (inputs count budget : ℕ) (last : State) (m : ℕ) (e : Ending) : Type 0 where
  pub spent : ℕ
  pub old : State
  pub played : Played f inputs count budget spent old
  pub round : IsRound f inputs (min (budget - spent) 256) old last
  pub first : IsFirst last m e

-- no more lines were learned than may be: a refutation is that of a member within its budget, or has at most so many lines
abbrev pub EndsInBudget : Clauses → ℕ → ℕ → ℕ → Outcome → Type 0
EndsInBudget f inputs count budget (Solved bits) = Unit {0}
EndsInBudget f inputs count budget (Unsolvable j) =
    ((last : State) × ((m : ℕ) × ((e : Step) × (HasEnded f inputs count budget last m (emptied e) × (j.lines ≡ joined_with f last m e)))))
    ⊎ (length j.lines ≤ budget)
EndsInBudget f inputs count budget (Spent j) = Unit {0}
