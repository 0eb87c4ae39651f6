-- what is kept of the members: their searches, with the round of each line and the line from which each
-- handed clause comes
use Rattle.std.specs.Prelude.{◌≡◌, ℕ, ◌+◌, ◌-◌, ◌≤◌, ◌⊎◌, Bool, List, [], ◌∷◌, length, map, Option, Some, None, IsSome}
use Rattle.rr_cnf.specs.Clauses.{Clauses}
use Rattle.rr_derive.specs.Derive.{Step}
use Rattle.rr_derive.specs.Fresh.{Handed}
use Rattle.rr_solver.specs.Searches.{Search, Same, line}
use Rattle.rr_solver.specs.declared.engine.Status.{Status}
use Rattle.rr_solver.specs.declared.engine.Status.TheVariants.{Running, Model, Refuted, Failed}
use Rattle.rr_solver.specs.declared.engine.Stepped.{Stepped}
use Rattle.rr_solver.specs.declared.engine.Stepped.TheVariants.{Learned as HasLearned, Model as HasModel, Refuted as HasRefuted}
use Rattle.rr_rounds.specs.States.{Ending, emptied, solved, Learned, Member, Taken}
use Rattle.rr_rounds.specs.declared.place.Place.{Place}
use Rattle.rr_rounds.specs.Rounds.{Event, MayAll, May, after, after_all}
use Rattle.rr_member.specs.declared.seat.Origin.{Origin}

pub record Seated : Type 0 where
  pub search : Search
  pub rounds : List ℕ
  pub origins : List Origin

-- a member that has done nothing
abbrev pub new_seat : Clauses → ℕ → Seated
new_seat f inputs = record {
  search = record { formula = f; inputs = inputs; lines = []; handed = []; depth = 0; status = Running; bits = [] };
  rounds = [];
  origins = [];
}

-- the lines with their rounds; the empty line that ends a refutation has none
abbrev pub with_rounds : List ℕ → List Step → List Learned
with_rounds [] ss = []
with_rounds (r ∷ rs) [] = []
with_rounds (r ∷ rs) (s ∷ ss) = record { round = r; step = s } ∷ with_rounds rs ss

abbrev pub place_of : Origin → Place
place_of o = record { member = o.member; line = o.line }

abbrev pub with_origins : List Origin → List Handed → List Taken
with_origins [] hs = []
with_origins (o ∷ os) [] = []
with_origins (o ∷ os) (h ∷ hs) = record { handed = h; origin = place_of o } ∷ with_origins os hs

abbrev pub ending_by : Status → List Bool → List Step → Option Ending
ending_by Running bits lines = None
ending_by Model bits lines = Some (solved bits)
ending_by Refuted bits lines = Some (emptied (line lines (length lines - 1)))
ending_by Failed bits lines = None

-- the member as the rounds see it
abbrev pub member_of : Seated → Member
member_of s = record {
  lines = with_rounds s.rounds s.search.lines;
  taken = with_origins s.origins s.search.handed;
  ending = ending_by s.search.status s.search.bits s.search.lines;
}

-- the lines that have no round
abbrev pub unlisted : Status → ℕ
unlisted Running = 0
unlisted Model = 0
unlisted Refuted = 1
unlisted Failed = 0

-- the answer of the last step fits the search
abbrev pub StandsAs : Stepped → Status → Type 0
StandsAs HasLearned status = (status ≡ Running) ⊎ (status ≡ Failed)
StandsAs HasModel status = status ≡ Model
StandsAs HasRefuted status = status ≡ Refuted

pub record IsSeat (s : Search) (rounds : List ℕ) (origins : List Origin) (stepped : Stepped) : Type 0 where
  pub lines : length rounds + unlisted s.status ≡ length s.lines
  pub handed : map (λ o. o.id) origins ≡ map (λ h. h.id) s.handed
  pub stands : StandsAs stepped s.status

-- one event of this round
pub record Does (round : ℕ) (old new : Seated) : Type 0 where
  pub event : Event
  pub may : May old.search.formula old.search.inputs (member_of old) event
  pub is : member_of new ≡ after round (member_of old) event
  pub sound : new.search.status ≡ Failed → ⊥

-- so many events of this round
pub record Made (count round : ℕ) (old new : Seated) : Type 0 where
  pub events : List Event
  pub many : length events ≡ count
  pub may : MayAll old.search.formula old.search.inputs round (member_of old) events
  pub is : member_of new ≡ after_all round (member_of old) events
  pub same : Same old.search new.search
  pub sound : new.search.status ≡ Failed → ⊥

-- so many events, or fewer and an end
pub record Ran (count round : ℕ) (old new : Seated) : Type 0 where
  pub made : ℕ
  pub few : made ≤ count
  pub is : Made made round old new
  pub enough : (made ≡ count) ⊎ IsSome (member_of new).ending
