-- how a trail is kept: what is true by the code of a literal, a record for each variable, and where each
-- level begins
use Rattle.std.specs.Prelude.{◌≡◌, ℕ, ◌+◌, ◌-◌, ◌*◌, ◌<◌, ◌≤◌, ◌↔◌, Bool, true, false, List, [], ◌∷◌, length, get_or, map, All, Contains, None}
use Rattle.rr_cnf.specs.Clauses.{Literal, IsWithin}
use Rattle.rr_cnf.specs.Codes.{code_of}
use Rattle.rr_trail.specs.Trails.{Entry, IsTrail, Standing, entry}
use Rattle.rr_trail.specs.declared.assignment.Variable.{Variable}

-- true literals over the variables 1 to vars
pub record Assigned : Type 0 where
  pub vars : ℕ
  pub entries : List Entry

abbrev pub unset : Variable
unset = record { level = 0; place = 0; reason = None }

-- what is known of a variable
abbrev pub known_of : List Variable → ℕ → Variable
known_of variables v = get_or variables v unset

-- the entry of a literal, by the record of its variable
abbrev pub entry_of : List Variable → Literal → Entry
entry_of variables l = record { lit = l; level = (known_of variables l.var).level; reason = (known_of variables l.var).reason }

abbrev pub entries : List Variable → List Literal → List Entry
entries variables ls = map (entry_of variables) ls

abbrev pub literal_at : List Literal → ℕ → Literal
literal_at ls k = get_or ls k (record { var = 0; negative = false })

-- no two literals of the list have one variable
abbrev pub AreApart : List Literal → Type 0
AreApart [] = Unit {0}
AreApart (l ∷ ls) = All (λ m. l.var ≡ m.var → ⊥) ls × AreApart ls

-- the table has the literal as true
abbrev pub ReadsTrue : List Bool → Literal → Type 0
ReadsTrue truths l = get_or truths (code_of l) false ≡ true

-- the table has exactly these literals as true
abbrev pub Represents : List Bool → List Literal → Type 0
Represents truths held = (l : Literal) → ReadsTrue truths l ↔ Contains held l

-- each variable of the list has the place of its literal
abbrev pub ArePlaced : List Variable → List Literal → Type 0
ArePlaced variables ls = (k : ℕ) → k < length ls → (known_of variables (literal_at ls k).var).place ≡ k

-- the tables and the list of true literals agree, and the list has room for every variable
pub record IsTables (truths : List Bool) (variables : List Variable) (ls : List Literal) (capacity : ℕ) : Type 0 where
  pub some : 1 ≤ length variables
  pub most : length variables ≤ 4294967295
  pub twice : length truths ≡ 2 * length variables
  pub within : All (IsWithin (length variables - 1)) ls
  pub apart : AreApart ls
  pub told : Represents truths ls
  pub placed : ArePlaced variables ls
  pub room : length variables - 1 ≤ capacity

-- of the literals at these places none is read as true any more, and all others are read as before
pub record Cleared (old new : List Bool) (ls : List Literal) (from to : ℕ) : Type 0 where
  pub long : length new ≡ length old
  pub none : (k : ℕ) → from ≤ k → k < to → ReadsTrue new (literal_at ls k) → ⊥
  pub kept : (l : Literal) → ReadsTrue new l → ReadsTrue old l
  pub others : (l : Literal) → ((k : ℕ) → from ≤ k → k < to → literal_at ls k ≡ l → ⊥) → ReadsTrue old l → ReadsTrue new l

-- the decision that begins the level stands at this place
pub record Begins (t : List Entry) (place n : ℕ) : Type 0 where
  pub inside : place < length t
  pub decided : (entry t place).reason ≡ None
  pub level : (entry t place).level ≡ n

-- the levels begin where the list says, and it has room for a level for each variable
pub record IsLevelled (a : Assigned) (starts : List ℕ) (capacity : ℕ) : Type 0 where
  pub most : a.vars ≤ 4294967294
  pub few : length a.entries ≤ a.vars
  pub room : a.vars ≤ capacity
  pub lawful : IsTrail a.entries (length starts)
  pub begun : (n : ℕ) → n < length starts → Begins a.entries (get_or starts n 0) (n + 1)

abbrev pub standing : Assigned → ℕ → Standing
standing a depth = record { vars = a.vars; entries = a.entries; depth = depth }
