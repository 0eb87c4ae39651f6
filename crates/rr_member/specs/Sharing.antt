-- what is handed over between rounds
use Rattle.std.specs.Prelude.{◌≡◌, ℕ, ◌<◌, ◌==◌, not, cond, List, [], ◌∷◌, ◌++◌, length, get_or, map, take, filter, All}
use Rattle.rr_cnf.specs.Clauses.{IsWithin}
use Rattle.rr_solver.specs.Searches.{IsNewId}
use Rattle.rr_solver.specs.declared.engine.Status.TheVariants.{Running}
use Rattle.rr_rounds.specs.States.{Member, State, Taken, handed, learned, steps}
use Rattle.rr_rounds.specs.declared.place.Place.{Place}
use Rattle.rr_rounds.specs.Joined.{flat}
use Rattle.rr_rounds.specs.Rounds.{IsAboveEnd, is_short}
use Rattle.rr_member.specs.Seats.{Seated, member_of}
use Rattle.rr_member.specs.declared.sharing.Short.{Short}

abbrev pub nobody : Seated
nobody = record {
  search = record { formula = record { vars = 0; clauses = [] }; inputs = 0; lines = []; handed = []; depth = 0; status = Running; bits = [] };
  rounds = [];
  origins = [];
}

abbrev pub seat : List Seated → ℕ → Seated
seat seats k = get_or seats k nobody

-- the members as the rounds see them
abbrev pub state_of : ℕ → List Seated → State
state_of round seats = record { round = round; members = map member_of seats }

-- the line of the member, where it is to be handed over at the end of this round
abbrev pub short_at : ℕ → ℕ → Member → ℕ → List Short
short_at round place m k = cond (is_short round (learned m k)) (record { member = place; line = k; clause = (learned m k).step.clause } ∷ []) []

abbrev pub shorts_of : ℕ → ℕ → Member → List Short
shorts_of round place m = flat (length m.lines) (short_at round place m)

abbrev pub all_shorts : ℕ → List Seated → List Short
all_shorts round seats = flat (length seats) (λ i. shorts_of round i (member_of (seat seats i)))

abbrev pub origin_of : Short → Place
origin_of x = record { member = x.member; line = x.line }

abbrev pub not_own : ℕ → List Short → List Short
not_own place shorts = filter (λ x. not (x.member == place)) shorts

-- what is to be handed over has variables of each member's formula
abbrev pub MayTake : List Short → List Seated → Type 0
MayTake shorts seats = (k : ℕ) → k < length seats → All (λ x. All (IsWithin (seat seats k).search.formula.vars) x.clause) shorts

-- a clause is handed over under a new id, which is above that of the empty line with which the member has ended
pub record Gives (x : Short) (old new : Seated) : Type 0 where
  pub id : ℕ
  pub is_new : IsNewId old.search.formula (steps (member_of old)) (handed (member_of old)) id
  pub ended : IsAboveEnd (member_of old) id
  pub search : new.search ≡ record old.search { handed = old.search.handed ++ record { id = id; clause = x.clause } ∷ [] }
  pub is : member_of new ≡ record (member_of old) { taken = (member_of old).taken ++ record { handed = record { id = id; clause = x.clause }; origin = origin_of x } ∷ [] }

-- the clauses of all other members are handed over, each under a new id
pub record Took (place : ℕ) (shorts : List Short) (old new : Seated) : Type 0 where
  pub more : List Taken
  pub origins : map (λ t. t.origin) more ≡ map origin_of (not_own place shorts)
  pub clauses : map (λ t. t.handed.clause) more ≡ map (λ x. x.clause) (not_own place shorts)
  pub ids : (k : ℕ) (d : Taken) → k < length more → IsNewId old.search.formula (steps (member_of old)) (handed (member_of old) ++ map (λ t. t.handed) (take k more)) (get_or more k d).handed.id
  pub ended : (k : ℕ) (d : Taken) → k < length more → IsAboveEnd (member_of old) (get_or more k d).handed.id
  pub search : new.search ≡ record old.search { depth = 0; handed = old.search.handed ++ map (λ t. t.handed) more }
  pub is : member_of new ≡ record (member_of old) { taken = (member_of old).taken ++ more }

-- to every member
pub record AllTook (shorts : List Short) (old new : List Seated) : Type 0 where
  pub count : length new ≡ length old
  pub each : (k : ℕ) → k < length old → Took k shorts (seat old k) (seat new k)
