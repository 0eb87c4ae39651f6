-- trails by recursion, for the counting law
use Rattle.std.specs.Prelude.{◌≡◌, ℕ, zero, suc, ◌<◌, ◌≤◌, ◌⊎◌, true, false, List, [], ◌∷◌, ◌++◌, length, get_or, All, Contains}
use Rattle.std.specs.List.{AllByRecursion as ByRecursion}
use Rattle.std.proofs.Common.{inl, inr, arith}
use Rattle.std.proofs.lemmas.Bool.{true≢false}
use Rattle.std.proofs.lemmas.List.Elements.{All-weaker}
use Rattle.rr_cnf.specs.Clauses.{Literal, negated}
use Rattle.rr_cnf.specs.Partial.{IsQuiet as Quiet}
use Rattle.rr_derive.specs.Fresh.{Entry, IsDecided, IsForced, IsFresh as Fresh, IsTrail as Trail, OthersFalse as FalseBut, decision_of, lits}

-- a trail stands newest first
abbrev pub Holds : List Entry → Literal → Type 0
Holds [] l = ⊥
Holds (e ∷ t) l = (e.lit ≡ l) ⊎ Holds t l

abbrev pub Decided : List Entry → Literal → Type 0
Decided [] l = ⊥
Decided (e ∷ t) l = ((e.lit ≡ l) × (e.decided ≡ true)) ⊎ Decided t l

-- neither the literal nor its negation is true
abbrev pub IsOpen : List Entry → Literal → Type 0
IsOpen t l = (Holds t l → ⊥) × (Holds t (negated l) → ⊥)

abbrev pub IsFalseBy : List Entry → List Literal → Type 0
IsFalseBy t c = All (λ l. Holds t (negated l)) c

-- all literals of the clause but this one are false
abbrev pub OthersFalse : List Entry → List Literal → Literal → Type 0
OthersFalse t c l = All (λ m. (m ≡ l) ⊎ Holds t (negated m)) c

-- why an entry may stand on the trail
abbrev pub IsEntry : List (List Literal) → ℕ → List Entry → Entry → Type 0
IsEntry hand inputs before e =
    IsOpen before e.lit
    × (((e.decided ≡ true) × (1 ≤ e.lit.var) × (e.lit.var ≤ inputs))
    ⊎ ((e.decided ≡ false) × ((c : List Literal) × (Contains hand c × Contains c e.lit × OthersFalse before c e.lit))))

abbrev pub IsTrail : List (List Literal) → ℕ → List Entry → Type 0
IsTrail hand inputs [] = Unit {0}
IsTrail hand inputs (e ∷ before) = IsTrail hand inputs before × IsEntry hand inputs before e

-- no clause at hand is false or unit
pub record IsQuiet (hand : List (List Literal)) (t : List Entry) : Type 0 where
  pub not_false : (c : List Literal) → Contains hand c → IsFalseBy t c → ⊥
  pub not_unit : (c : List Literal) (l : Literal) → Contains hand c → Contains c l → IsOpen t l → OthersFalse t c l → ⊥

-- the clause rejects a decision after a quiet trail
pub record Rejects (hand : List (List Literal)) (inputs : ℕ) (t : List Entry) (d : Literal) (clause : List Literal) : Type 0 where
  pub trail : IsTrail hand inputs t
  pub quiet : IsQuiet hand t
  pub open_decision : IsOpen t d
  pub low : 1 ≤ d.var
  pub high : d.var ≤ inputs
  pub negation : Contains clause (negated d)
  pub others : OthersFalse t clause (negated d)

-- a fresh line, with what was at hand before it
pub record Line : Type 0 where
  pub hand : List (List Literal)
  pub trail : List Entry
  pub decision : Literal
  pub clause : List Literal

abbrev pub IsFresh : ℕ → Line → Type 0
IsFresh i r = Rejects r.hand i r.trail r.decision r.clause

-- what was at hand stays, and the line's clause is at hand afterwards
abbrev pub Before : Line → Line → Type 0
Before r s = ((c : List Literal) → Contains r.hand c → Contains s.hand c) × Contains s.hand r.clause

abbrev pub InOrder : List Line → Type 0
InOrder [] = Unit {0}
InOrder (r ∷ rs) = ByRecursion (Before r) rs × InOrder rs

contains_holds : (t : List Entry) (l : Literal) → Contains (lits t) l → Holds t l
contains_holds [] l c = absurd (omega (arith, c.1))
contains_holds (e ∷ t) l c = go c.0 c.1 c.2 (contains_holds t l)
  where
    go : (k : ℕ) → k < length (lits (e ∷ t)) → get_or (lits (e ∷ t)) k l ≡ l → (Contains (lits t) l → Holds t l) → Holds (e ∷ t) l
    go zero b q rest = inl q
    go (suc k) b q rest = inr (rest (k, omega (arith, b), q))

holds_contains : (t : List Entry) (l : Literal) → Holds t l → Contains (lits t) l
holds_contains [] l h = absurd h
holds_contains (e ∷ t) l (inl q) = (0, omega arith, q)
holds_contains (e ∷ t) l (inr h) = let c = holds_contains t l h in (suc c.0, omega (arith, c.1), c.2)

others_from : (t : List Entry) (c : List Literal) (l : Literal) → FalseBut (lits t) c l → OthersFalse t c l
others_from t c l h = All-weaker (λ m. (m ≡ l) ⊎ Contains (lits t) (negated m)) (λ m. (m ≡ l) ⊎ Holds t (negated m)) (λ m w. elim w [ inl e ↦ inl e | inr f ↦ inr (contains_holds t (negated m) f) ]) c h

others_to : (t : List Entry) (c : List Literal) (l : Literal) → OthersFalse t c l → FalseBut (lits t) c l
others_to t c l h = All-weaker (λ m. (m ≡ l) ⊎ Holds t (negated m)) (λ m. (m ≡ l) ⊎ Contains (lits t) (negated m)) (λ m w. elim w [ inl e ↦ inl e | inr f ↦ inr (holds_contains t (negated m) f) ]) c h

why : (hand : List (List Literal)) (i : ℕ) (t : List Entry) (e : Entry) → (IsDecided i e ⊎ IsForced hand (lits t) e)
    → (((e.decided ≡ true) × (1 ≤ e.lit.var) × (e.lit.var ≤ i)) ⊎ ((e.decided ≡ false) × ((c : List Literal) × (Contains hand c × Contains c e.lit × OthersFalse t c e.lit))))
why hand i t e (inl d) = inl d
why hand i t e (inr f) = inr (f.0, (f.1.0, (f.1.1.0, f.1.1.1, others_from t f.1.0 e.lit f.1.1.2)))

trail_from : (hand : List (List Literal)) (i : ℕ) (t : List Entry) → Trail hand i t → IsTrail hand i t
trail_from hand i [] tr = tt
trail_from hand i (e ∷ t) tr = (trail_from hand i t tr.0, ((λ h. tr.1.0.0 (holds_contains t e.lit h), λ h. tr.1.0.1 (holds_contains t (negated e.lit) h)), why hand i t e tr.1.1))

quiet_from : (hand : List (List Literal)) (t : List Entry) → Quiet hand (lits t) → IsQuiet hand t
quiet_from hand t q = record {
  not_false = λ c k f. (q c k).0 (All-weaker (λ l. Holds t (negated l)) (λ l. Contains (lits t) (negated l)) (λ l h. holds_contains t (negated l) h) c f);
  not_unit = λ c l k m o others. (q c k).1 l (record {
    member = m;
    not_true = λ h. o.0 (contains_holds t l h);
    not_false = λ h. o.1 (contains_holds t (negated l) h);
    others = others_to t c l others;
  });
}

suffix : (hand : List (List Literal)) (i : ℕ) (u t : List Entry) → Trail hand i (u ++ t) → Trail hand i t
suffix hand i [] t tr = tr
suffix hand i (e ∷ u) t tr = suffix hand i u t tr.0

pub rejects_from : (hand : List (List Literal)) (named : ℕ → List Literal → Type 0) (i : ℕ) (clause : List Literal) (hints : List ℕ) (f : Fresh hand named i clause hints) → Rejects hand i f.trail f.decision clause
rejects_from hand named i clause hints f =
    let tr = suffix hand i f.forced (decision_of f.decision ∷ f.trail) f.lawful in
    let range : (1 ≤ f.decision.var) × (f.decision.var ≤ i) = elim tr.1.1 [ inl d ↦ (d.1, d.2) | inr w ↦ absurd (true≢false w.0) ] in
    record {
      trail = trail_from hand i f.trail tr.0;
      quiet = quiet_from hand f.trail f.quiet;
      open_decision = (λ h. tr.1.0.0 (holds_contains f.trail f.decision h), λ h. tr.1.0.1 (holds_contains f.trail (negated f.decision) h));
      low = range.0;
      high = range.1;
      negation = f.negation;
      others = others_from f.trail clause (negated f.decision) f.others;
    }
