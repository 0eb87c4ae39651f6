-- the joined journal: the lines of all members, one behind another
use Rattle.std.specs.Prelude.{◌≡◌, ℕ, suc, zero, ◌+◌, ◌<◌, ◌≤◌, ◌==◌, cond, List, [], ◌∷◌, ◌++◌, length, get_or, map, Option, Some, None}
use Rattle.std.specs.List.{find}
use Rattle.rr_cnf.specs.Clauses.{Clauses}
use Rattle.rr_derive.specs.Derive.{Step}
use Rattle.rr_rounds.specs.States.{Taken, Member, State, member, learned, line_of}
use Rattle.rr_rounds.specs.declared.place.Place.{Place}

-- the first n of these lists, one behind another
abbrev pub flat : {X : Type 0} → ℕ → (ℕ → List X) → List X
flat zero f = []
flat (suc n) f = flat n f ++ f n

-- the line, if it was learned in this round
abbrev pub here : ℕ → ℕ → Member → ℕ → List Place
here round place m k = cond ((learned m k).round == round) (record { member = place; line = k } ∷ []) []

-- the lines of a member that were learned in this round
abbrev pub lines_in : ℕ → ℕ → Member → List Place
lines_in round place m = flat (length m.lines) (here round place m)

abbrev pub of_member : State → ℕ → ℕ → List Place
of_member s round place = lines_in round place (member s place)

-- the lines of this round, member by member
abbrev pub of_round : State → ℕ → List Place
of_round s round = flat (length s.members) (of_member s round)

-- all lines, round by round
abbrev pub in_order : State → List Place
in_order s = flat (suc s.round) (of_round s)

-- the lines that stand before this one: those of earlier rounds, those of this round by members with a
-- lower number, and the earlier ones of this round by the member itself
abbrev pub standing_before : State → Place → List Place
standing_before s p =
    flat (line_of s p).round (of_round s)
    ++ (flat p.member (of_member s (line_of s p).round) ++ flat p.line (here (line_of s p).round p.member (member s p.member)))

-- there is such a line
pub record IsLine (s : State) (p : Place) : Type 0 where
  pub low : p.member < length s.members
  pub inside : p.line < length (member s p.member).lines

-- ids go on behind those of the formula
abbrev pub joined_id : Clauses → State → Place → ℕ
joined_id f s p = length f.clauses + 1 + length (standing_before s p)

-- an id in a member, and the line that it names
pub record Name : Type 0 where
  pub id : ℕ
  pub line : Place

-- the names of a member: its own lines, and the lines from which clauses were handed over to it
abbrev pub own_name : ℕ → Member → ℕ → List Name
own_name place m k = record { id = (learned m k).step.id; line = record { member = place; line = k } } ∷ []

abbrev pub taken_name : Taken → Name
taken_name t = record { id = t.handed.id; line = t.origin }

abbrev pub names_of : ℕ → Member → List Name
names_of place m = flat (length m.lines) (own_name place m) ++ map taken_name m.taken

abbrev pub names : State → ℕ → List Name
names s m = names_of m (member s m)

-- the joined id of what a hint of a member names; the formula's clauses keep their ids
abbrev pub id_of : Clauses → State → ℕ → Option Name → ℕ
id_of f s h None = h
id_of f s h (Some n) = joined_id f s n.line

abbrev pub renumbered : Clauses → State → ℕ → ℕ → ℕ
renumbered f s m h = id_of f s h (find (λ n. n.id == h) (names s m))

-- a line of a member as the joined journal has it
abbrev pub joined_step : Clauses → State → Place → Step
joined_step f s p = record {
  id = joined_id f s p;
  clause = (line_of s p).step.clause;
  hints = map (renumbered f s p.member) (line_of s p).step.hints;
}

abbrev pub joined : Clauses → State → List Step
joined f s = map (joined_step f s) (in_order s)

-- the empty line with which a member has ended, behind all lines
abbrev pub last_step : Clauses → State → ℕ → Step → Step
last_step f s m e = record {
  id = length f.clauses + 1 + length (in_order s);
  clause = e.clause;
  hints = map (renumbered f s m) e.hints;
}

-- the joined journal that ends with the empty line of this member
abbrev pub joined_with : Clauses → State → ℕ → Step → List Step
joined_with f s m e = joined f s ++ last_step f s m e ∷ []

-- the joined ids of the lines, by member and line
pub record HasIds (f : Clauses) (s : State) (ids : List (List ℕ)) : Type 0 where
  pub count : length ids ≡ length s.members
  pub long : (m : ℕ) → m < length s.members → length (get_or ids m []) ≡ length (member s m).lines
  pub each : (p : Place) → IsLine s p → (line_of s p).round ≤ s.round → get_or (get_or ids p.member []) p.line 0 ≡ joined_id f s p
