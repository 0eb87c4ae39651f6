-- the list of the clauses that watch one literal
use Rattle.std.specs.Prelude.{ℕ, ◌/◌, ◌%◌, ◌==◌, ◌≡◌, Bool, List, Contains}
use Rattle.rr_cnf.specs.Clauses.{Literal}
use Rattle.rr_cnf.specs.Codes.{literal_of}
use Rattle.rr_watch_lists.specs.declared.watchers.Watcher.{Watcher}

-- another literal of the clause
abbrev pub blocker_of : Watcher → Literal
blocker_of w = literal_of (w.packed / 2)

-- the clause has no third literal
abbrev pub is_brief : Watcher → Bool
is_brief w = (w.packed % 2) == 1

abbrev pub nobody : Watcher
nobody = record { place = 0; packed = 0 }

-- the clauses that watch a literal, and for how many clauses there is room
pub record WatchList : Type 0 where
  pub entries : List Watcher
  pub uses : ℕ

-- the clause at this place is in the list
abbrev pub IsListed : List Watcher → ℕ → Type 0
IsListed es k = (w : Watcher) × (Contains es w × (w.place ≡ k))
