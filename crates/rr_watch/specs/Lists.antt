-- clauses with their watched literals, in the lists of the clauses that watch each literal
use Rattle.std.specs.Prelude.{◌≡◌, ℕ, ◌+◌, ◌-◌, ◌*◌, ◌<◌, ◌≤◌, ◌⊎◌, ◌==◌, ◌||◌, true, false, cond, List, length, get_or, All, Contains, IfSome, Option, Some, None}
use Rattle.std.specs.List.{sum_by}
use Rattle.rr_cnf.specs.Clauses.{Literal, negated, IsWithin}
use Rattle.rr_cnf.specs.Codes.{code_of}
use Rattle.rr_cnf.specs.Partial.{IsFalse}
use Rattle.rr_trail.specs.Trails.{Entry, entry, lits, Forces, Standing, IsTrail, AreForced, Grown}
use Rattle.rr_watch.specs.Watches.{Named}
use Rattle.rr_watch_lists.specs.WatchLists.{WatchList, IsListed, blocker_of, is_brief}
use Rattle.rr_watch_lists.specs.declared.watchers.Watcher.{Watcher}
use Rattle.rr_watch_lists.specs.Holdings.{Held, held_at, all_numbered}
use Rattle.rr_watch_lists.specs.Lists.{list_at, watcher_at, has}
use Rattle.rr_watch.specs.declared.propagator.Propagator.{Propagator}
use Rattle.rr_watch.specs.declared.propagator.Step.{Step}
use Rattle.rr_watch.specs.declared.propagator.Step.TheVariants.{Kept, Moved, False}

abbrev pub literal_at : List Literal → ℕ → Literal
literal_at c k = get_or c k (record { var = 0; negative = false })

-- the watched literals
abbrev pub first_of : Held → Literal
first_of h = literal_at h.clause h.first

abbrev pub second_of : Held → Literal
second_of h = literal_at h.clause h.second

-- 1 where the clause has the literal of this code and does not watch it
abbrev pub wants : ℕ → Held → ℕ
wants code h = cond ((code_of (first_of h) == code) || (code_of (second_of h) == code)) 0 (cond (has h.clause code) 1 0)

-- the number of clauses that have the literal and do not watch it
abbrev pub wanted : List Held → ℕ → ℕ
wanted hs code = sum_by (wants code) hs

-- a literal of the clause is true, and where the place j is before late, its level is not above that of j
pub record Excuse (t : List Entry) (late j : ℕ) (c : List Literal) : Type 0 where
  pub place : ℕ
  pub inside : place < length t
  pub member : Contains c (entry t place).lit
  pub level : j < late → (entry t place).level ≤ (entry t j).level

-- once it is seen that w is false, a literal of the clause is true
abbrev pub Serves : List Entry → ℕ → ℕ → Literal → List Literal → Type 0
Serves t head late w c = (j : ℕ) → j < head → (entry t j).lit ≡ negated w → Excuse t late j c

-- both places are in the clause, whose length fits 32 bits
pub record IsPlaced (h : Held) : Type 0 where
  pub few : length h.clause ≤ 4294967295
  pub first : h.first < length h.clause
  pub second : h.second < length h.clause

-- a clause in the list of the literal of this code, and another literal of it; where there is no third,
-- its literals are these two
pub record IsWatcher (hs : List Held) (c : ℕ) (w : Watcher) : Type 0 where
  pub inside : w.place < length hs
  pub placed : IsPlaced (held_at hs w.place)
  pub member : Contains (held_at hs w.place).clause (blocker_of w)
  pub brief : is_brief w ≡ true → All (λ m. (code_of m ≡ c) ⊎ (m ≡ blocker_of w)) (held_at hs w.place).clause

-- a clause that watches two literals, in whose lists it stands
pub record IsLong (t : List Entry) (ls : List WatchList) (head late k : ℕ) (h : Held) : Type 0 where
  pub placed : IsPlaced h
  pub differ : first_of h ≡ second_of h → ⊥
  pub first_listed : IsListed (list_at ls (code_of (first_of h))).entries k
  pub second_listed : IsListed (list_at ls (code_of (second_of h))).entries k
  pub first_serves : Serves t head late (first_of h) h.clause
  pub second_serves : Serves t head late (second_of h) h.clause

-- the clause has no two literals
abbrev pub AreAlike : List Literal → Type 0
AreAlike c = (l m : Literal) → Contains c l → Contains c m → l ≡ m

-- a clause that watches nothing
pub record IsShort (short : List ℕ) (k : ℕ) (c : List Literal) : Type 0 where
  pub alike : AreAlike c
  pub listed : Contains short k

-- a literal of the clause is true on level 0
pub record IsSettled (t : List Entry) (c : List Literal) : Type 0 where
  pub place : ℕ
  pub inside : place < length t
  pub member : Contains c (entry t place).lit
  pub level : (entry t place).level ≡ 0

-- the state between the steps of propagation
pub record IsPropagator (tr : Standing) (hs : List Held) (ls : List WatchList) (short : List ℕ) (settled head late : ℕ) : Type 0 where
  pub sized : length ls ≡ 2 * tr.vars + 2
  pub few : length hs ≤ 4294967295
  pub lawful : IsTrail tr.entries tr.depth
  pub fits : length tr.entries ≤ tr.vars
  pub most : tr.vars ≤ 1073741823
  pub trail_within : (k : ℕ) → k < length tr.entries → IsWithin tr.vars (entry tr.entries k).lit
  pub forced : AreForced (Named (all_numbered hs)) tr.entries
  pub rising : (j k : ℕ) → j < k → k < length hs → (held_at hs j).id < (held_at hs k).id
  pub within : (k : ℕ) → k < length hs → All (IsWithin tr.vars) (held_at hs k).clause
  pub keeps : (k : ℕ) → k < length hs → IsLong tr.entries ls head late k (held_at hs k) ⊎ IsShort short k (held_at hs k).clause
  pub listed : (c : ℕ) (w : Watcher) → Contains (list_at ls c).entries w → IsWatcher hs c w
  pub room : (c : ℕ) → length (list_at ls c).entries + wanted hs c ≤ (list_at ls c).uses
  pub shorts : (s : ℕ) → s < length short → (get_or short s 0 < length hs) × AreAlike (held_at hs (get_or short s 0)).clause
  pub settled_few : settled ≤ length short
  pub settled_true : (s : ℕ) → s < settled → IsSettled tr.entries (held_at hs (get_or short s 0)).clause
  pub seen : head ≤ length tr.entries
  pub pending : (k : ℕ) → head ≤ k → k < length tr.entries → k < late → (entry tr.entries k).level ≡ tr.depth

abbrev pub Whole : Propagator → Type 0
Whole p = IsPropagator p.trail p.hand.held p.lists p.short.items p.settled p.head p.late

-- the same clauses, and a trail that grew by forced literals
pub record Advances (old new : Propagator) : Type 0 where
  pub vars : new.trail.vars ≡ old.trail.vars
  pub depth : new.trail.depth ≡ old.trail.depth
  pub clauses : all_numbered new.hand.held ≡ all_numbered old.hand.held
  pub grown : Grown old.trail.entries new.trail.entries

-- the same clauses and the same trail
pub record Stays (old new : Propagator) : Type 0 where
  pub trail : new.trail ≡ old.trail
  pub clauses : all_numbered new.hand.held ≡ all_numbered old.hand.held

-- all literals of the clause that the id names are false
abbrev pub IsConflict : Propagator → ℕ → Type 0
IsConflict p id = (c : List Literal) × (Named (all_numbered p.hand.held) id c × IsFalse (lits p.trail.entries) c)

-- the clause at this place watches nothing, or has seen the trail up to head
abbrev pub HasSeen : Propagator → ℕ → ℕ → Type 0
HasSeen p head k = IsLong p.trail.entries p.lists head p.late k (held_at p.hand.held k) ⊎ IsShort p.short.items k (held_at p.hand.held k).clause

-- what the clauses have seen they have seen still
abbrev pub KeepsSeen : Propagator → Propagator → Type 0
KeepsSeen old new = (head k : ℕ) → k < length old.hand.held → HasSeen old head k → HasSeen new head k

-- all clauses but the newest have seen the trail up to this place
pub record IsAhead (p : Propagator) (head : ℕ) : Type 0 where
  pub further : p.head ≤ head
  pub inside : head ≤ length p.trail.entries
  pub earlier : (k : ℕ) → k + 1 < length p.hand.held → HasSeen p head k

-- the newest clause
abbrev pub newest : Propagator → Held
newest p = held_at p.hand.held (length p.hand.held - 1)

-- the newest clause watches this literal first, its other literals are false, and the second one that it
-- watches is so since the last decision
pub record IsAsserted (p : Propagator) (l : Literal) : Type 0 where
  pub some : 0 < length p.hand.held
  pub first : l ≡ first_of (newest p)
  pub apart : AreAlike (newest p).clause → ⊥
  pub forces : Forces (lits p.trail.entries) (newest p).clause l
  pub late : (j : ℕ) → j < length p.trail.entries → (entry p.trail.entries j).lit ≡ negated (second_of (newest p)) → (entry p.trail.entries j).level ≡ p.trail.depth

-- clauses and a trail, with what the earlier clauses have seen of it, if that is told
pub record IsWatching (p : Propagator) (place : Option ℕ) : Type 0 where
  pub whole : Whole p
  pub ahead : IfSome place (IsAhead p)

-- a literal of the clause is true
abbrev pub IsServed : List Entry → List Literal → Type 0
IsServed t c = (l : Literal) × (Contains c l × Contains (lits t) l)

-- the clause at this place of the literal's list
abbrev pub watching_at : Propagator → Literal → ℕ → Held
watching_at p q at = held_at p.hand.held (watcher_at p.lists q at).place

-- the clauses at the first places of the literal's list have seen that it is false
abbrev pub AreServed : Propagator → Literal → ℕ → Type 0
AreServed p q at = (i : ℕ) → i < at → IsServed p.trail.entries (watching_at p q i).clause

abbrev pub list_len : Propagator → Literal → ℕ
list_len p q = length (list_at p.lists (code_of q)).entries

-- what one step leaves at the place of a literal's list
abbrev pub SteppedIs : Propagator → Propagator → Literal → ℕ → Step → Type 0
SteppedIs old new q at Kept = AreServed new q (at + 1) × (list_len new q ≡ list_len old q)
SteppedIs old new q at Moved = AreServed new q at × (list_len new q + 1 ≡ list_len old q)
SteppedIs old new q at (False id) = IsConflict new id

-- the literal of the trail that is next to be seen
pub record IsNext (p : Propagator) (q : Literal) : Type 0 where
  pub inside : p.head < length p.trail.entries
  pub literal : (entry p.trail.entries p.head).lit ≡ negated q

-- what a step leaves alone
pub record KeepsPlace (old new : Propagator) : Type 0 where
  pub head : new.head ≡ old.head
  pub late : new.late ≡ old.late
  pub short : new.short.items ≡ old.short.items
  pub settled : new.settled ≡ old.settled

-- the place of the other watched literal
abbrev pub IsOther : Held → Literal → Option ℕ → Type 0
IsOther h q None = (first_of h ≡ q → ⊥) × (second_of h ≡ q → ⊥)
IsOther h q (Some p) = ((first_of h ≡ q) × (p ≡ h.second)) ⊎ ((second_of h ≡ q) × (p ≡ h.first))

-- a literal of the clause that differs from o and is not false
abbrev pub IsReplacement : List Entry → List Literal → Literal → Option ℕ → Type 0
IsReplacement t c o None = All (λ m. (m ≡ o) ⊎ Contains (lits t) (negated m)) c
IsReplacement t c o (Some p) = (p < length c) × (literal_at c p ≡ o → ⊥) × (Contains (lits t) (negated (literal_at c p)) → ⊥)

-- the same of the literals at the places from the first to before the end
abbrev pub IsReplacementIn : List Entry → List Literal → Literal → ℕ → ℕ → Option ℕ → Type 0
IsReplacementIn t c o first end None = (k : ℕ) → first ≤ k → k < end → (literal_at c k ≡ o) ⊎ Contains (lits t) (negated (literal_at c k))
IsReplacementIn t c o first end (Some p) = IsReplacement t c o (Some p)

-- 2 ^ 32 for a literal that is not false, and else its level
abbrev pub RankIs : List Entry → Literal → ℕ → Type 0
RankIs t l r =
    ((r ≡ 4294967296) × (Contains (lits t) (negated l) → ⊥))
    ⊎ ((k : ℕ) × ((k < length t) × ((entry t k).lit ≡ negated l) × (r ≡ (entry t k).level)))

abbrev pub IsApart : Literal → Option Literal → Type 0
IsApart l None = Unit {0}
IsApart l (Some o) = l ≡ o → ⊥

-- the literal has the greatest rank among those of the clause that differ from the given one
pub record IsBest (t : List Entry) (c : List Literal) (o : Option Literal) (p : ℕ) : Type 0 where
  pub inside : p < length c
  pub apart : IsApart (literal_at c p) o
  pub rank : ℕ
  pub ranked : RankIs t (literal_at c p) rank
  pub greatest : (m : Literal) → Contains c m → IsApart m o → (r : ℕ) × (RankIs t m r × (r ≤ rank))

abbrev pub BestIs : List Entry → List Literal → Option Literal → Option ℕ → Type 0
BestIs t c o None = (m : Literal) → Contains c m → IsApart m o → ⊥
BestIs t c o (Some p) = IsBest t c o p

-- one clause more with these literals fits
abbrev pub HasSpare : Propagator → List Literal → Type 0
HasSpare p c = (code : ℕ) → length (list_at p.lists code).entries + (wanted p.hand.held code + cond (has c code) 1 0) ≤ (list_at p.lists code).uses

-- the clause may stand behind the others
pub record IsNew (p : Propagator) (h : Held) : Type 0 where
  pub few : length p.hand.held < 4294967295
  pub id : All (λ n. n.id < h.id) (all_numbered p.hand.held)
  pub within : All (IsWithin p.trail.vars) h.clause

-- a literal of the clause is true
abbrev pub IsForcedShort : Propagator → ℕ → Type 0
IsForcedShort p s = (l : Literal) × (Contains (held_at p.hand.held (get_or p.short.items s 0)).clause l × Contains (lits p.trail.entries) l)

abbrev pub AreForcedShort : Propagator → ℕ → Type 0
AreForcedShort p n = (s : ℕ) → s < n → IsForcedShort p s
