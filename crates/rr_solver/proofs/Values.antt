-- reading values off the trail
use Rattle.std.proofs.Common.{◌≡◌, inl, inr, ℕ, ◌+◌, ◌≤◌, Bool, true, false, not, cond, List, [], ◌∷◌, ◌++◌, length, get_or, refl, sym, ◌∙◌, ap, subst, arith}
use Rattle.std.specs.Prelude.{Contains, Option, Some, None, is_some, MatchOption, MatchBool}
use Rattle.std.proofs.Math.Seq.{get_or-append_seam}
use Rattle.std.proofs.lemmas.List.{get_or_append_left}
use Rattle.std.proofs.lemmas.Bool.{cases_lt, false≢true, true≢false}
use Rattle.rr_cnf.specs.Clauses.{Literal, negated}
use Rattle.rr_derive.proofs.MarkLaws.{negated-apart}
use Rattle.rr_cnf.specs.Partial.{IsAssigned}
use Rattle.rr_trail.specs.Trails.{Entry, IsTrail, lits}
use Rattle.rr_solver.specs.Engines.{Agrees}
use Rattle.rr_solver.specs.Searches.{given}
use Rattle.rr_analysis.proofs.Walk.{true_same}

pub assigned_from : (held : List Literal) (v : ℕ) (r : Option Bool) (b : Bool) → is_some r ≡ not b → b ≡ false → MatchOption r ((Contains held (record { var = v; negative = true }) → ⊥) × (Contains held (record { var = v; negative = false }) → ⊥)) (λ x. MatchBool x (Contains held (record { var = v; negative = true })) (Contains held (record { var = v; negative = false }))) → IsAssigned held v
assigned_from held v None true e f m = absurd (true≢false f)
assigned_from held v None false e f m = absurd (false≢true e)
assigned_from held v (Some true) b e f m = inr m
assigned_from held v (Some false) b e f m = inl m

pub up_one : (held : List Literal) (i : ℕ) → ((v : ℕ) → 1 ≤ v → v ≤ i → IsAssigned held v) → IsAssigned held (i + 1) → (v : ℕ) → 1 ≤ v → v ≤ i + 1 → IsAssigned held v
up_one held i f a v low high = elim (cases_lt i v) [ inl x ↦ (let e : i + 1 ≡ v = omega arith in subst (IsAssigned held) e a) | inr x ↦ f v low x ]

pub truth_of : (t : List Entry) (d : ℕ) → IsTrail t d → (l : Literal) (b : Bool) → MatchBool b (Contains (lits t) l) (Contains (lits t) (negated l)) → (Contains (lits t) l → b ≡ true) × (Contains (lits t) (negated l) → b ≡ false)
truth_of t d tr l true m = (λ c. refl, λ c. absurd (negated-apart l (true_same t d tr (negated l) l c m refl)))
truth_of t d tr l false m = (λ c. absurd (negated-apart l (true_same t d tr (negated l) l m c refl)), λ c. refl)

pub Agrees-push : (bits : List Bool) (i : ℕ) (held : List Literal) (b : Bool) → length bits ≡ i + 1 → Agrees bits i held → (Contains held (record { var = i + 1; negative = false }) → b ≡ true) → (Contains held (record { var = i + 1; negative = true }) → b ≡ false) → Agrees (bits ++ b ∷ []) (i + 1) held
Agrees-push bits i held b long a pos neg l w c = elim (cases_lt i l.var) [
  | inl x ↦ (let e : l.var ≡ i + 1 = omega (arith, w.1) in
      let r : given (bits ++ b ∷ []) l.var ≡ b = ap (λ n. get_or (bits ++ b ∷ []) n false) (e ∙ sym long) ∙ get_or-append_seam bits b [] false in
      by_sign l.negative b pos neg (given (bits ++ b ∷ []) l.var) r (subst (λ v. Contains held (record { var = v; negative = l.negative })) e c))
  | inr x ↦ (let r : given (bits ++ b ∷ []) l.var ≡ given bits l.var = get_or_append_left bits (b ∷ []) false l.var (omega (arith, long)) in
      ap (λ q. cond l.negative (not q) q) r ∙ a l (w.0, x) c)
]
  where
    by_sign : (n b : Bool) → (Contains held (record { var = i + 1; negative = false }) → b ≡ true) → (Contains held (record { var = i + 1; negative = true }) → b ≡ false) → (q : Bool) → q ≡ b → Contains held (record { var = i + 1; negative = n }) → cond n (not q) q ≡ true
    by_sign true b pos neg q e c = ap not (e ∙ neg c)
    by_sign false b pos neg q e c = e ∙ pos c
