-- the lists of watchers of all literals in one table
use Rattle.std.specs.Prelude.{◌≡◌, ℕ, ◌+◌, ◌<◌, ◌≤◌, ◌⊎◌, List, length, get_or, map, take, drop, All}
use Rattle.rr_watch_lists.specs.WatchLists.{WatchList}
use Rattle.rr_watch_lists.specs.declared.watchers.Watcher.{Watcher}
use Rattle.rr_watch_lists.specs.declared.watchers.Span.{Span}

abbrev pub span_at : List Span → ℕ → Span
span_at ss c = get_or ss c (record { start = 0; len = 0; room = 0; uses = 0 })

-- what the table has there
abbrev pub list_in : List Watcher → Span → WatchList
list_in es s = record { entries = take s.len (drop s.start es); uses = s.uses }

abbrev pub lists_in : List Watcher → List Span → List WatchList
lists_in es ss = map (list_in es) ss

-- a list with its room, which fits 32 bits, among so many entries, for all clauses that have the literal
pub record IsSpan (n : ℕ) (s : Span) : Type 0 where
  pub inside : s.start + s.room ≤ n
  pub few : s.room ≤ 4294967295
  pub len : s.len ≤ s.room
  pub uses : s.uses ≤ s.room

-- they share no entry
abbrev pub AreDisjoint : Span → Span → Type 0
AreDisjoint s t = (s.start + s.room ≤ t.start) ⊎ (t.start + t.room ≤ s.start)

pub record AreSpans (n : ℕ) (ss : List Span) : Type 0 where
  pub inside : All (IsSpan n) ss
  pub disjoint : (i j : ℕ) → i < length ss → j < length ss → (i ≡ j → ⊥) → AreDisjoint (span_at ss i) (span_at ss j)

-- the same list with room for one clause more, behind all entries that there were
pub record IsMoved (old new : List Watcher) (s t : Span) : Type 0 where
  pub kept : take (length old) new ≡ old
  pub behind : length old ≤ t.start
  pub span : IsSpan (length new) t
  pub entries : (list_in new t).entries ≡ (list_in old s).entries
  pub uses : t.uses ≡ s.uses + 1
