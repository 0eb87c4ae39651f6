-- what a search keeps between its steps
use Rattle.std.specs.Prelude.{◌≡◌, ℕ, ◌+◌, ◌<◌, ◌≤◌, Bool, true, List, [], length, get_or, take, map, All, Contains, None}
use Rattle.rr_cnf.specs.Clauses.{Literal, Clauses, IsWithin, literal_true}
use Rattle.rr_cnf.specs.Partial.{IsQuiet, Determined}
use Rattle.rr_derive.specs.Derive.{Step, Proof}
use Rattle.rr_derive.specs.Fresh.{Handed, NamesAtHand, hand_of}
use Rattle.rr_trail.specs.Trails.{Entry, entry, lits}
use Rattle.rr_watch.specs.Watches.{Named, State, bare}
use Rattle.rr_watch_lists.specs.Numbers.{Numbered}
use Rattle.rr_solver.specs.Searches.{HaveOwnIds, Search, IsLog, given}
use Rattle.rr_analysis.specs.Workspaces.{IsReady}
use Rattle.rr_solver.specs.declared.engine.Status.{Status}
use Rattle.rr_solver.specs.declared.engine.Status.TheVariants.{Running}
use Rattle.rr_solver.specs.declared.engine.Engine.{Engine}

-- a decision of an input, before which no clause was false or unit
pub record Stands (hand : List (List Literal)) (inputs : ℕ) (before : List Entry) (e : Entry) : Type 0 where
  pub input : e.lit.var ≤ inputs
  pub quiet : IsQuiet hand (lits before)

abbrev pub AllStand : List (List Literal) → ℕ → List Entry → Type 0
AllStand hand inputs t = (k : ℕ) → k < length t → (entry t k).reason ≡ None → Stands hand inputs (take k t) (entry t k)

-- the clauses are those at hand
pub record IsHand (f : List (List Literal)) (lines : List Step) (handed : List Handed) (clauses : List Numbered) : Type 0 where
  pub named : (id : ℕ) (c : List Literal) → Named clauses id c → NamesAtHand f lines handed id c
  pub all : (c : List Literal) → Contains (hand_of f lines handed) c → Contains (bare clauses) c

-- the clause at this place, as it was handed over
abbrev pub handed_at : List Numbered → ℕ → Handed
handed_at clauses p = record { id = (get_or clauses p (record { id = 0; clause = [] })).id; clause = (get_or clauses p (record { id = 0; clause = [] })).clause }

abbrev pub all_handed : List Numbered → List ℕ → List Handed
all_handed clauses places = map (handed_at clauses) places

-- the first clauses are the formula
abbrev pub question : State → ℕ → Clauses
question w count = record { vars = w.vars; clauses = take count (bare w.clauses) }

pub record IsEngine (w : State) (inputs count last : ℕ) (j : Proof) (places : List ℕ) (status : Status) (bits : List Bool) : Type 0 where
  pub room : w.vars < 4294967295
  pub few : inputs ≤ w.vars
  pub counted : count ≤ length w.clauses
  pub beginning : j.first ≡ count + 1
  pub counted_ids : count ≤ last
  pub ids : All (λ n. n.id ≤ last) w.clauses
  pub line_ids : All (λ s. s.id ≤ last) j.lines
  pub own_ids : HaveOwnIds (question w count) j.lines (all_handed w.clauses places)
  pub placed : All (λ p. p < length w.clauses) places
  pub determined : Determined (question w count) inputs
  pub stands : AllStand (bare w.clauses) inputs w.trail
  pub at_hand : status ≡ Running → IsHand (take count (bare w.clauses)) j.lines (all_handed w.clauses places) w.clauses
  pub log : IsLog (question w count) inputs (all_handed w.clauses places) j.lines status bits

abbrev pub Whole : Engine → Type 0
Whole e = IsEngine e.watch e.inputs e.count e.last e.journal e.handed.items e.status e.assignment.items

-- the workspace has a mark for each variable
abbrev pub Ready : Engine → Type 0
Ready e = IsReady e.watch.vars e.work

-- the search as callers see it
abbrev pub search_of : Engine → Search
search_of e = record {
  formula = question e.watch e.count;
  inputs = e.inputs;
  lines = e.journal.lines;
  handed = all_handed e.watch.clauses e.handed.items;
  depth = e.watch.depth;
  status = e.status;
  bits = e.assignment.items;
}

-- only the trail changes
pub record Moves (old new : Engine) : Type 0 where
  pub vars : new.watch.vars ≡ old.watch.vars
  pub clauses : new.watch.clauses ≡ old.watch.clauses
  pub inputs : new.inputs ≡ old.inputs
  pub count : new.count ≡ old.count
  pub last : new.last ≡ old.last
  pub journal : new.journal ≡ old.journal
  pub places : new.handed.items ≡ old.handed.items
  pub status : new.status ≡ old.status
  pub bits : new.assignment.items ≡ old.assignment.items
  pub ready : Ready old → Ready new

-- the bits make the held literals true
abbrev pub Agrees : List Bool → ℕ → List Literal → Type 0
Agrees bits n held = (l : Literal) → IsWithin n l → Contains held l → literal_true (given bits) l ≡ true
