-- the lists of the clauses that watch each literal, as one of them changes
use Rattle.std.specs.Prelude.{◌≡◌, ℕ, ◌+◌, ◌≤◌, ◌==◌, Bool, cond, List, [], ◌∷◌, ◌++◌, length, get_or, set}
use Rattle.std.specs.List.{list_any, swap_remove}
use Rattle.rr_cnf.specs.Clauses.{Literal}
use Rattle.rr_cnf.specs.Codes.{code_of}
use Rattle.rr_watch_lists.specs.WatchLists.{WatchList, nobody}
use Rattle.rr_watch_lists.specs.declared.watchers.Watcher.{Watcher}

abbrev pub list_at : List WatchList → ℕ → WatchList
list_at ls c = get_or ls c (record { entries = []; uses = 0 })

-- the watcher at this place of the literal's list
abbrev pub watcher_at : List WatchList → Literal → ℕ → Watcher
watcher_at ls q at = get_or (list_at ls (code_of q)).entries at nobody

-- the clause has the literal of this code
abbrev pub has : List Literal → ℕ → Bool
has c code = list_any (λ l. code_of l == code) c

-- a clause taken off one list
pub record Unlisted (ls new : List WatchList) (from at : ℕ) : Type 0 where
  pub long : length new ≡ length ls
  pub entries : (list_at new from).entries ≡ swap_remove (list_at ls from).entries at nobody
  pub uses : (list_at new from).uses ≡ (list_at ls from).uses
  pub others : (c : ℕ) → (c ≡ from → ⊥) → list_at new c ≡ list_at ls c

-- a clause put on one list
pub record Listed (ls new : List WatchList) (to : ℕ) (w : Watcher) : Type 0 where
  pub long : length new ≡ length ls
  pub entries : (list_at new to).entries ≡ (list_at ls to).entries ++ w ∷ []
  pub uses : (list_at new to).uses ≡ (list_at ls to).uses
  pub others : (c : ℕ) → (c ≡ to → ⊥) → list_at new c ≡ list_at ls c

-- an entry of one list that is another one, for the same clause or another
pub record Reblocked (ls new : List WatchList) (code at : ℕ) (w : Watcher) : Type 0 where
  pub long : length new ≡ length ls
  pub entries : (list_at new code).entries ≡ set (list_at ls code).entries at w
  pub uses : (list_at new code).uses ≡ (list_at ls code).uses
  pub others : (c : ℕ) → (c ≡ code → ⊥) → list_at new c ≡ list_at ls c

-- the lists have room for one clause more that has these literals
pub record HasRoom (old new : List WatchList) (c : List Literal) : Type 0 where
  pub long : length new ≡ length old
  pub entries : (code : ℕ) → (list_at new code).entries ≡ (list_at old code).entries
  pub uses : (code : ℕ) → (list_at old code).uses + cond (has c code) 1 0 ≤ (list_at new code).uses
