-- the members of a search
use Rattle.std.specs.Prelude.{ℕ, Bool, List, [], get_or, map, Option, None}
use Rattle.rr_derive.specs.Derive.{Step}
use Rattle.rr_derive.specs.Fresh.{Handed}
use Rattle.rr_rounds.specs.declared.place.Place.{Place}

-- a line, with the number of the round in which it was learned
pub record Learned : Type 0 where
  pub round : ℕ
  pub step : Step

-- a clause that was handed over, and the line from which it comes
pub record Taken : Type 0 where
  pub handed : Handed
  pub origin : Place

-- values that satisfy the formula, or an empty line
pub data Ending : Type 0 where
  solved : List Bool → Ending
  emptied : Step → Ending

-- a member: its lines, what was handed over to it, and how it has ended, if it has
pub record Member : Type 0 where
  pub lines : List Learned
  pub taken : List Taken
  pub ending : Option Ending

-- the number of the round that is under way, from 0, and the members
pub record State : Type 0 where
  pub round : ℕ
  pub members : List Member

-- a member that has done nothing
abbrev pub idle : Member
idle = record { lines = []; taken = []; ending = None }

abbrev pub nothing : Learned
nothing = record { round = 0; step = record { id = 0; clause = []; hints = [] } }

abbrev pub member : State → ℕ → Member
member s m = get_or s.members m idle

abbrev pub learned : Member → ℕ → Learned
learned m k = get_or m.lines k nothing

abbrev pub no_taken : Taken
no_taken = record { handed = record { id = 0; clause = [] }; origin = record { member = 0; line = 0 } }

abbrev pub taken : Member → ℕ → Taken
taken m j = get_or m.taken j no_taken

abbrev pub line_of : State → Place → Learned
line_of s p = learned (member s p.member) p.line

-- the lines and the handed clauses, as the solver of the member has them
abbrev pub steps : Member → List Step
steps m = map (λ l. l.step) m.lines

abbrev pub handed : Member → List Handed
handed m = map (λ t. t.handed) m.taken
