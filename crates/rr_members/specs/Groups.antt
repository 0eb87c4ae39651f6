-- all members of a search
use Rattle.std.specs.Prelude.{◌≡◌, ℕ, ◌^◌, ◌<◌, ◌≤◌, Bool, List, [], length, get_or, Some, None, IsSome, Result, Ok}
use Rattle.std.specs.declared.alloc.AllocError.{AllocError}
use Rattle.rr_cnf.specs.Clauses.{Clauses}
use Rattle.rr_derive.specs.Derive.{Refutes, Step}
use Rattle.rr_derive.specs.Lrat.{AreWritable}
use Rattle.rr_solver.specs.Searches.{IsModel}
use Rattle.rr_solver.specs.declared.engine.Status.TheVariants.{Failed}
use Rattle.rr_rounds.specs.States.{Ending, emptied, solved, State, member}
use Rattle.rr_rounds.specs.Joined.{joined_with}
use Rattle.rr_members.specs.declared.members.Round.{Round}
use Rattle.rr_members.specs.declared.members.Round.TheVariants.{Going, Model, Refuted}
use Rattle.rr_rounds.specs.Rounds.{Reached}
use Rattle.rr_member.specs.Seats.{Ran, Seated, member_of}
use Rattle.rr_member.specs.Sharing.{seat, state_of}

-- the formula, of which the variables up to `inputs` are decided, the members, and whether memory has
-- run out
pub record Group : Type 0 where
  pub formula : Clauses
  pub inputs : ℕ
  pub state : State
  pub failed : Bool

-- the question of the first member, which is that of all
abbrev pub formula_of : List Seated → Clauses
formula_of seats = (seat seats 0).search.formula

abbrev pub inputs_of : List Seated → ℕ
inputs_of seats = (seat seats 0).search.inputs

abbrev pub group_of : ℕ → List Seated → Bool → Group
group_of round seats failed = record { formula = formula_of seats; inputs = inputs_of seats; state = state_of round seats; failed = failed }

-- the member is asked this question, and memory has lasted
pub record Asked (f : Clauses) (inputs : ℕ) (s : Seated) : Type 0 where
  pub question : s.search.formula ≡ f
  pub decided : s.search.inputs ≡ inputs
  pub sound : s.search.status ≡ Failed → ⊥

-- the members stand as moves and hand-overs leave them; `count` is the formula's number of clauses
pub record IsGroup (seats : List Seated) (round count : ℕ) : Type 0 where
  pub some : 0 < length seats
  pub bounded : round < 2 ^ 63
  pub few : length seats ≤ 8
  pub counted : count ≡ length (formula_of seats).clauses
  pub asked : (k : ℕ) → k < length seats → Asked (formula_of seats) (inputs_of seats) (seat seats k)
  pub reached : Reached (formula_of seats) (inputs_of seats) (length seats) (state_of round seats)

-- a member for which memory has lasted
abbrev pub seat_as_ok : Seated → Result Seated AllocError
seat_as_ok s = Ok s

-- each member has made its events of this round
pub record EachRan (steps round : ℕ) (old new : List Seated) : Type 0 where
  pub count : length new ≡ length old
  pub each : (k : ℕ) → k < length old → Ran steps round (seat old k) (seat new k)

-- the member has ended, and none with a lower number
pub record IsFirst (s : State) (m : ℕ) (e : Ending) : Type 0 where
  pub low : m < length s.members
  pub ended : (member s m).ending ≡ Some e
  pub first : (k : ℕ) → k < m → (member s k).ending ≡ None

abbrev pub NoneEnded : State → Type 0
NoneEnded s = (m : ℕ) → m < length s.members → (member s m).ending ≡ None

-- that of the lowest-numbered member that has ended, and `Going` exactly where none has
abbrev pub AnswerIs : Group → Round → Type 0
AnswerIs g Going = NoneEnded g.state
AnswerIs g (Model bits) = (m : ℕ) × (IsFirst g.state m (solved bits.items) × IsModel g.formula bits.items)
AnswerIs g (Refuted j) = (m : ℕ) × ((e : Step) × (IsFirst g.state m (emptied e) × ((j.lines ≡ joined_with g.formula g.state m e) × (Refutes g.formula.clauses j.lines × AreWritable g.formula j.lines))))

-- the member at this place has ended, and none before it
pub record IsFirstEnded (seats : List Seated) (k : ℕ) : Type 0 where
  pub low : k < length seats
  pub ended : IsSome (member_of (seat seats k)).ending
  pub first : (j : ℕ) → j < k → (member_of (seat seats j)).ending ≡ None

-- as many ids for each member as it has lines
pub record AreLong (seats : List Seated) (ids : List (List ℕ)) : Type 0 where
  pub count : length ids ≡ length seats
  pub each : (k : ℕ) → k < length seats → length (get_or ids k []) ≡ length (member_of (seat seats k)).lines
