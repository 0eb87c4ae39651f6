-- the clauses at hand: the first ones of a formula, and those that were added
use Rattle.std.specs.Prelude.{◌≡◌, ℕ, ◌+◌, ◌≤◌, ◌<◌, List, [], ◌∷◌, ◌++◌, length, get_or, map, take, All}
use Rattle.std.specs.List.{between}
use Rattle.rr_cnf.specs.Clauses.{Literal}
use Rattle.rr_watch_lists.specs.Numbers.{Numbered, numbered_from}
use Rattle.rr_watch_lists.specs.declared.hand.Added.{Added}
use Rattle.rr_watch_lists.specs.declared.hand.Watched.{Watched}
use Rattle.rr_watch_lists.specs.declared.hand.Source.{Source}
use Rattle.rr_watch_lists.specs.declared.hand.Source.TheVariants.{OfFormula, Given}

-- a clause with its id, and the places in it of the two literals that it watches
pub record Held : Type 0 where
  pub id : ℕ
  pub clause : List Literal
  pub first : ℕ
  pub second : ℕ

abbrev pub held_at : List Held → ℕ → Held
held_at hs k = get_or hs k (record { id = 0; clause = []; first = 0; second = 0 })

-- the clauses at hand, of which so many are the formula's
pub record Holding : Type 0 where
  pub formula : List (List Literal)
  pub known : ℕ
  pub held : List Held

-- clauses with the places that they watch
abbrev pub watching : List Numbered → List Watched → List Held
watching [] ws = []
watching (n ∷ ns) [] = []
watching (n ∷ ns) (w ∷ ws) = record { id = n.id; clause = n.clause; first = w.first; second = w.second } ∷ watching ns ws

-- the formula's first clauses, one for each of what they watch
abbrev pub of_formula : List (List Literal) → List Watched → List Held
of_formula formula ws = watching (numbered_from 1 (take (length ws) formula)) ws

-- a clause that was added, with its literals among those of all
abbrev pub of_added : List Literal → Added → Held
of_added lits a = record { id = a.id; clause = between a.start a.end lits; first = a.watched.first; second = a.watched.second }

-- the formula's clauses, and behind them those that were added
abbrev pub holds : List (List Literal) → List Watched → List Added → List Literal → List Held
holds formula ws added lits = of_formula formula ws ++ map (of_added lits) added

-- the literals of a clause that was added lie among those of all
pub record IsInside (lits : List Literal) (a : Added) : Type 0 where
  pub order : a.start ≤ a.end
  pub end : a.end ≤ length lits

pub record IsHand (formula : List (List Literal)) (ws : List Watched) (added : List Added) (lits : List Literal) : Type 0 where
  pub few : length ws ≤ length formula
  pub inside : All (IsInside lits) added

-- the formula's clauses at hand, once a clause has come
abbrev pub known_with : Holding → Source → ℕ
known_with h OfFormula = h.known + 1
known_with h (Given id) = h.known

-- the id under which a clause comes
abbrev pub id_of : Holding → Source → ℕ
id_of h OfFormula = h.known + 1
id_of h (Given id) = id

-- the formula's next clause, while none was added; or any clause
abbrev pub IsSource : Holding → Source → List Literal → Type 0
IsSource h OfFormula c = (h.known < length h.formula) × (length h.held ≡ h.known) × (c ≡ get_or h.formula h.known [])
IsSource h (Given id) c = Unit {0}

-- a clause that comes, with what it watches
abbrev pub coming : Holding → Source → List Literal → Watched → Held
coming h s c w = record { id = id_of h s; clause = c; first = w.first; second = w.second }

abbrev pub numbered : Held → Numbered
numbered h = record { id = h.id; clause = h.clause }

abbrev pub all_numbered : List Held → List Numbered
all_numbered hs = map numbered hs

-- one clause more
pub record Adds (old new : Holding) (s : Source) (c : List Literal) : Type 0 where
  pub formula : new.formula ≡ old.formula
  pub known : new.known ≡ known_with old s
  pub clauses : all_numbered new.held ≡ all_numbered old.held ++ record { id = id_of old s; clause = c } ∷ []
