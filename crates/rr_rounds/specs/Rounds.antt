-- events of the members, rounds, and the hand-over between rounds
use Rattle.std.specs.Prelude.{◌≡◌, ℕ, ◌+◌, ◌*◌, ◌^◌, ◌<◌, ◌≤◌, ◌==◌, ◌⊎◌, ◌&&◌, Bool, not, cond, List, [], ◌∷◌, ◌++◌, length, get_or, map, take, set, filter, replicate, nat_lt, count_by, All, Contains, Some, None, IsSome}
use Rattle.rr_cnf.specs.Clauses.{Clauses, IsWithin}
use Rattle.rr_derive.specs.Derive.{Derives, Refutes, Step}
use Rattle.rr_derive.specs.Fresh.{Fresh}
use Rattle.rr_derive.specs.Lrat.{AreHinted}
use Rattle.rr_solver.specs.Searches.{IsFreshAfter, IsModel, IsNewId, NamesAll, PassesAfter, held_of}
use Rattle.rr_rounds.specs.States.{emptied, solved, Learned, Member, State, Taken, handed, idle, learned, line_of, member, steps, taken}
use Rattle.rr_rounds.specs.declared.place.Place.{Place}
use Rattle.rr_rounds.specs.Joined.{IsLine, flat, in_order, joined, joined_with}

-- what a member does: it learns a line, or ends with an assignment or with an empty line
pub data Event : Type 0 where
  learns : Step → Event
  solves : List Bool → Event
  refutes : Step → Event

-- an event of the member at this place
pub record Move : Type 0 where
  pub member : ℕ
  pub event : Event

-- a member may write this line: it has a new id and the formula's variables, and passes the hint check
-- against the formula, the member's lines and what was handed over to it, which its hints name
pub record MayWrite (f : Clauses) (m : Member) (s : Step) : Type 0 where
  pub id : IsNewId f (steps m) (handed m) s.id
  pub within : All (IsWithin f.vars) s.clause
  pub passes : PassesAfter f (steps m) (handed m) s
  pub hints : NamesAll f (steps m) (handed m) s

abbrev pub May : Clauses → ℕ → Member → Event → Type 0
May f inputs m (learns s) = (m.ending ≡ None) × (MayWrite f m s × IsFreshAfter f inputs (steps m) (handed m) s)
May f inputs m (solves bits) = (m.ending ≡ None) × IsModel f bits
May f inputs m (refutes s) = (m.ending ≡ None) × (MayWrite f m s × (s.clause ≡ []))

-- the member after an event of this round
abbrev pub after : ℕ → Member → Event → Member
after round m (learns s) = record m { lines = m.lines ++ record { round = round; step = s } ∷ [] }
after round m (solves bits) = record m { ending = Some (solved bits) }
after round m (refutes s) = record m { ending = Some (emptied s) }

-- an event changes its own member alone
abbrev pub moved : State → Move → State
moved s v = record s { members = set s.members v.member (after s.round (member s v.member) v.event) }

abbrev pub IsMove : Clauses → ℕ → State → Move → Type 0
IsMove f inputs s v = (v.member < length s.members) × May f inputs (member s v.member) v.event

-- moves one after another
abbrev pub moved_all : State → List Move → State
moved_all s [] = s
moved_all s (v ∷ vs) = moved_all (moved s v) vs

abbrev pub AreMoves : Clauses → ℕ → State → List Move → Type 0
AreMoves f inputs s [] = Unit {0}
AreMoves f inputs s (v ∷ vs) = IsMove f inputs s v × AreMoves f inputs (moved s v) vs

-- how many of the moves are this member's
abbrev pub moves_of : ℕ → List Move → ℕ
moves_of m vs = count_by (λ v. v.member == m) vs

-- the member has made its number of events, or has ended
abbrev pub HasMade : ℕ → List Move → State → ℕ → Type 0
HasMade steps vs end m = (moves_of m vs ≡ steps) ⊎ ((moves_of m vs ≤ steps) × IsSome (member end m).ending)

-- lines of the round with at most two literals are handed over, in member order and then line order
abbrev pub is_short : ℕ → Learned → Bool
is_short round l = (l.round == round) && nat_lt (length l.step.clause) 3

abbrev pub short_here : State → ℕ → ℕ → List Place
short_here s m k = cond (is_short s.round (learned (member s m) k)) (record { member = m; line = k } ∷ []) []

abbrev pub short_of : State → ℕ → List Place
short_of s m = flat (length (member s m).lines) (short_here s m)

abbrev pub shared : State → List Place
shared s = flat (length s.members) (short_of s)

-- to every other member
abbrev pub shared_with : State → ℕ → List Place
shared_with s m = filter (λ p. not (p.member == m)) (shared s)

-- an id above that of the empty line with which a member has ended, if it has
abbrev pub IsAboveEnd : Member → ℕ → Type 0
IsAboveEnd m id = (e : Step) → m.ending ≡ Some (emptied e) → e.id < id

-- what a member takes: each clause under an id above all that it has, which are those of the formula, of its lines, of what was
-- handed over to it before, and of the empty line with which it has ended
pub record Takes (f : Clauses) (s : State) (m : ℕ) (more : List Taken) : Type 0 where
  pub origins : map (λ t. t.origin) more ≡ shared_with s m
  pub clauses : All (λ t. t.handed.clause ≡ (line_of s t.origin).step.clause) more
  pub ids : (k : ℕ) (d : Taken) → k < length more → IsNewId f (steps (member s m)) (handed (member s m) ++ map (λ t. t.handed) (take k more)) (get_or more k d).handed.id
  pub ended : (k : ℕ) (d : Taken) → k < length more → IsAboveEnd (member s m) (get_or more k d).handed.id

pub record HandsOver (f : Clauses) (old new : State) : Type 0 where
  pub round : new.round ≡ old.round + 1
  pub count : length new.members ≡ length old.members
  pub each : (m : ℕ) → m < length old.members → (more : List Taken) × (Takes f old m more × (member new m ≡ record (member old m) { taken = (member old m).taken ++ more }))

-- a round: moves in any order in which each member makes its number of events or ends, then the hand-over
pub record IsRound (f : Clauses) (inputs events : ℕ) (old new : State) : Type 0 where
  pub moves : List Move
  pub are : AreMoves f inputs old moves
  pub made : (m : ℕ) → m < length old.members → HasMade events moves (moved_all old moves) m
  pub handed : HandsOver f (moved_all old moves) new

-- so many members, with no lines and with nothing handed over
abbrev pub start : ℕ → State
start count = record { round = 0; members = replicate count idle }

-- the states that moves and hand-overs reach, in whatever order
pub data Reached (f : Clauses) (inputs count : ℕ) : State → Type 0 where
  begun : Reached f inputs count (start count)
  by_move : {s : State} (v : Move) → Reached f inputs count s → IsMove f inputs s v → Reached f inputs count (moved s v)
  by_hand : {old new : State} → Reached f inputs count old → HandsOver f old new → Reached f inputs count new

-- moves of different members may be exchanged: they leave the same state and the same joined journal
abbrev pub EventsCommute : Type 0
EventsCommute = (f : Clauses) (inputs : ℕ) (s : State) (u v : Move) → (u.member ≡ v.member → ⊥)
    → IsMove f inputs s u × IsMove f inputs (moved s u) v
    → (IsMove f inputs s v × IsMove f inputs (moved s v) u)
    × (moved (moved s v) u ≡ moved (moved s u) v)
    × (joined f (moved (moved s v) u) ≡ joined f (moved (moved s u) v))

-- the events that a member makes in the list
abbrev pub events_of : ℕ → List Move → List Event
events_of m vs = map (λ v. v.event) (filter (λ v. v.member == m) vs)

-- moves in any order in which each member makes the same events are moves too, and leave the same state
abbrev pub OrderOfEventsIsFree : Type 0
OrderOfEventsIsFree = (f : Clauses) (inputs : ℕ) (s : State) (us vs : List Move) → AreMoves f inputs s us
    → ((m : ℕ) → events_of m vs ≡ events_of m us)
    → AreMoves f inputs s vs × (moved_all s vs ≡ moved_all s us)

-- each line stands in the order at exactly one place, by which the joined journal numbers it
abbrev pub JoinedListsAll : Type 0
JoinedListsAll = (f : Clauses) (inputs count : ℕ) (s : State) → Reached f inputs count s
    → ((p : Place) → IsLine s p → Contains (in_order s) p)
    × ((j k : ℕ) (d e : Place) → j < k → k < length (in_order s) → get_or (in_order s) j d ≡ get_or (in_order s) k e → ⊥)
    × ((k : ℕ) (d : Step) → k < length (in_order s) → (get_or (joined f s) k d).id ≡ length f.clauses + 1 + k)

-- the joined journal derives from the formula
abbrev pub JoinedDerives : Type 0
JoinedDerives = (f : Clauses) (inputs count : ℕ) (s : State) → Reached f inputs count s → Derives f.clauses (joined f s)

-- a member that has ended with an empty line refutes the formula
abbrev pub JoinedRefutes : Type 0
JoinedRefutes = (f : Clauses) (inputs count : ℕ) (s : State) (m : ℕ) (e : Step) → Reached f inputs count s
    → (member s m).ending ≡ Some (emptied e) → Refutes f.clauses (joined_with f s m e)

-- each hint of it names a clause of the formula or of a line before; also behind the empty line of a member
abbrev pub JoinedIsHinted : Type 0
JoinedIsHinted = (f : Clauses) (inputs count : ℕ) (s : State) → Reached f inputs count s
    → AreHinted f.clauses (joined f s)
    × ((m : ℕ) (e : Step) → (member s m).ending ≡ Some (emptied e) → AreHinted f.clauses (joined_with f s m e))

-- the lines of each member are fresh
abbrev pub AllFresh : Type 0
AllFresh = (f : Clauses) (inputs count : ℕ) (s : State) (m : ℕ) → Reached f inputs count s
    → Fresh f.clauses inputs (held_of (handed (member s m)) (steps (member s m))) (steps (member s m))

-- so are they few
abbrev pub LinesAreFew : Type 0
LinesAreFew = (f : Clauses) (inputs count : ℕ) (s : State) (m : ℕ) → Reached f inputs count s
    → length (member s m).lines ≤ inputs * 3 ^ inputs

-- events of a member one after another
abbrev pub after_all : ℕ → Member → List Event → Member
after_all round m [] = m
after_all round m (e ∷ es) = after_all round (after round m e) es

abbrev pub MayAll : Clauses → ℕ → ℕ → Member → List Event → Type 0
MayAll f inputs round m [] = Unit {0}
MayAll f inputs round m (e ∷ es) = May f inputs m e × MayAll f inputs round (after round m e) es

-- the ids of a member's lines and of what was handed over to it rise, and differ
pub record AreApart (m : Member) : Type 0 where
  pub lines : (j k : ℕ) → j < k → k < length m.lines → (learned m j).step.id < (learned m k).step.id
  pub clauses : (j k : ℕ) → j < k → k < length m.taken → (taken m j).handed.id < (taken m k).handed.id
  pub differ : (j k : ℕ) → j < length m.taken → k < length m.lines → (taken m j).handed.id ≡ (learned m k).step.id → ⊥
