-- Parts of the search: choices that mend a design, the outcome of one question, and the cheapest of several choices.
use Rattle.std.specs.Prelude.{ℕ, ◌<◌, ◌≤◌, List, [], length, get_or, Option, None, Some}
use Rattle.rr_circuit.specs.Values.{OutputNetlist}
use Rattle.rr_derive.specs.Derive.{Step}
use Rattle.rr_choice.specs.declared.pick.Pick.{Pick}
use Rattle.rr_choice.specs.Choices.{cost, IsChoice}
use Rattle.rr_members.specs.Searched.{IsSpent}
use Rattle.rr_search.specs.declared.asking.Reply.{Reply}
use Rattle.rr_search.specs.declared.asking.Reply.TheVariants.{Mended, Refuted, Open}
use Rattle.rr_search.specs.Answers.{Task, IsOf, IsRefuted, Mends}
use Rattle.rr_transition.specs.Cycles.{Design}
use Rattle.rr_tseitin.specs.Tseitin.{formula_of}
use Rattle.rr_unroll.specs.Faithful.{Faithful}
use Rattle.rr_unroll.specs.Matches.{Matches}

-- no design of the task matches as it is
abbrev pub AreFaulty : Task → Type 0
AreFaulty t = (j : Design) → IsOf t j → Matches j t.table → ⊥

-- a choice that mends each design of the task
pub record IsMending (t : Task) (c : List Pick) : Type 0 where
  pub choice : IsChoice t.sites c
  pub mends : (j : Design) → IsOf t j → Mends j t c

-- at most so many changes mend no design of the task, which is refuted
pub record IsClosed (t : Task) (bound : ℕ) (circuit : OutputNetlist) (lines : List Step) : Type 0 where
  pub refuted : (j : Design) → IsOf t j → IsRefuted j t bound circuit lines
  pub dearer : (j : Design) → IsOf t j → (c : List Pick) → IsChoice t.sites c → Mends j t c → bound < cost c

-- the question whether they do is left open
pub record IsOpen (t : Task) (bound : ℕ) (circuit : OutputNetlist) (lines : List Step) : Type 0 where
  pub faithful : (j : Design) → IsOf t j → Faithful circuit j t.sites t.table bound
  pub spent : IsSpent (formula_of circuit) circuit.netlist.inputs t.members t.budget lines

-- a choice of at most this cost that mends, or that there is none, or neither
abbrev pub ReplyIs : Task → ℕ → Reply → Type 0
ReplyIs t bound (Mended choice) = IsMending t choice.picks.items × (cost choice.picks.items ≤ bound)
ReplyIs t bound (Refuted circuit journal) = IsClosed t bound circuit journal.lines
ReplyIs t bound (Open circuit journal) = IsOpen t bound circuit journal.lines

-- the choice at a place, the empty one where there is none
abbrev pub choice_at : List (List Pick) → ℕ → List Pick
choice_at choices k = get_or choices k []

-- of the first n choices, the place of the cheapest that mends; none where none mends any design of the task
abbrev pub IsCheapest : Task → List (List Pick) → ℕ → Option ℕ → Type 0
IsCheapest t choices n None = (i : ℕ) → i < n → (j : Design) → IsOf t j → Mends j t (choice_at choices i) → ⊥
IsCheapest t choices n (Some k) =
    (k < length choices)
    × IsMending t (choice_at choices k)
    × ((i : ℕ) → i < n → (j : Design) → IsOf t j → Mends j t (choice_at choices i) → cost (choice_at choices k) ≤ cost (choice_at choices i))
