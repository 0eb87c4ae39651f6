-- what makes a learned clause fresh: it rejects a partial choice of inputs that unit propagation had
-- left open
use Rattle.std.specs.Prelude.{◌≡◌, ℕ, ◌<◌, ◌≤◌, ◌⊎◌, ◌*◌, ◌^◌, Bool, true, false, List, [], ◌∷◌, ◌++◌, All, Contains, length, map, slice_index_or, take}
use Rattle.rr_cnf.specs.Clauses.{Literal, negated}
use Rattle.rr_cnf.specs.Partial.{IsFalse, IsQuiet, IsUnit}
use Rattle.rr_derive.specs.Derive.{Names, Step}

-- a literal of a trail, and whether it was decided
pub record Entry : Type 0 where
  pub lit : Literal
  pub decided : Bool

-- a trail stands newest first; its literals are those that are true
abbrev pub lits : List Entry → List Literal
lits t = map (λ e. e.lit) t

-- neither the literal nor its negation is true
abbrev pub IsOpen : List Literal → Literal → Type 0
IsOpen held l = (Contains held l → ⊥) × (Contains held (negated l) → ⊥)

-- all literals of the clause but this one are false
abbrev pub OthersFalse : List Literal → List Literal → Literal → Type 0
OthersFalse held c l = All (λ m. (m ≡ l) ⊎ Contains held (negated m)) c

-- a decided literal is an input
abbrev pub IsDecided : ℕ → Entry → Type 0
IsDecided inputs e = (e.decided ≡ true) × (1 ≤ e.lit.var) × (e.lit.var ≤ inputs)

-- a forced literal stands in a clause at hand whose other literals are false
abbrev pub IsForced : List (List Literal) → List Literal → Entry → Type 0
IsForced hand held e = (e.decided ≡ false) × ((c : List Literal) × (Contains hand c × Contains c e.lit × OthersFalse held c e.lit))

-- literals of different variables, each decided, or forced by those before it
abbrev pub IsTrail : List (List Literal) → ℕ → List Entry → Type 0
IsTrail hand inputs [] = Unit {0}
IsTrail hand inputs (e ∷ before) =
    IsTrail hand inputs before × (IsOpen (lits before) e.lit × (IsDecided inputs e ⊎ IsForced hand (lits before) e))

abbrev pub decision_of : Literal → Entry
decision_of d = record { lit = d; decided = true }

-- the literal stands in a clause that one of the hints names which the hint check reads, up to and
-- including the false clause
abbrev pub Hinted : (ℕ → List Literal → Type 0) → List Literal → List ℕ → Literal → Type 0
Hinted named held [] l = ⊥
Hinted named held (h ∷ hs) l =
    (c : List Literal) × (named h c × (Contains c l ⊎ ((u : Literal) × (IsUnit held c u × Hinted named (held ++ u ∷ []) hs l))))

-- after a trail under which no clause at hand is false or unit, a decision leads by forced literals to
-- a false clause; the learned clause has the decision's negation and else what was false before it,
-- and each of its literals stands in a hinted clause
pub record IsFresh (hand : List (List Literal)) (named : ℕ → List Literal → Type 0) (inputs : ℕ) (clause : List Literal) (hints : List ℕ) : Type 0 where
  pub trail : List Entry
  pub decision : Literal
  pub forced : List Entry
  pub lawful : IsTrail hand inputs (forced ++ decision_of decision ∷ trail)
  pub all_forced : All (λ e. e.decided ≡ false) forced
  pub quiet : IsQuiet hand (lits trail)
  pub conflict : (c : List Literal) × (Contains hand c × IsFalse (lits (forced ++ decision_of decision ∷ trail)) c)
  pub negation : Contains clause (negated decision)
  pub others : OthersFalse (lits trail) clause (negated decision)
  pub hinted : (l : Literal) → Contains clause l → Hinted named (map negated clause) hints l

-- a clause that was handed over, with the id by which hints name it
pub record Handed : Type 0 where
  pub id : ℕ
  pub clause : List Literal

-- the clauses at hand: those of the formula, of the earlier lines, and what was handed over
abbrev pub hand_of : List (List Literal) → List Step → List Handed → List (List Literal)
hand_of formula earlier handed = formula ++ (map (λ s. s.clause) earlier ++ map (λ h. h.clause) handed)

-- what an id names at hand
abbrev pub NamesAtHand : List (List Literal) → List Step → List Handed → ℕ → List Literal → Type 0
NamesAtHand formula earlier handed id c =
    Names formula earlier id c ⊎ ((h : Handed) × (Contains handed h × (h.id ≡ id) × (h.clause ≡ c)))

-- the line is fresh after the earlier lines and what was handed over before it
abbrev pub IsFreshLine : List (List Literal) → ℕ → List Step → List Handed → Step → Type 0
IsFreshLine formula inputs earlier handed s =
    IsFresh (hand_of formula earlier handed) (NamesAtHand formula earlier handed) inputs s.clause s.hints

-- each line is fresh; held gives for each line what was handed over before it, and what was handed
-- over stays so
pub record Fresh (formula : List (List Literal)) (inputs : ℕ) (held : List (List Handed)) (lines : List Step) : Type 0 where
  pub count : length held ≡ length lines
  pub stays : (j k : ℕ) (h : Handed) → j < k → k < length lines → Contains (slice_index_or held j []) h → Contains (slice_index_or held k []) h
  pub each : (k : ℕ) (d : Step) → k < length lines → IsFreshLine formula inputs (take k lines) (slice_index_or held k []) (slice_index_or lines k d)

-- there are at most i * 3^i fresh lines over i inputs
abbrev pub FreshLinesAreFew : Type 0
FreshLinesAreFew = (formula : List (List Literal)) (inputs : ℕ) (held : List (List Handed)) (lines : List Step) →
    Fresh formula inputs held lines → length lines ≤ inputs * 3 ^ inputs
