-- a proof that refutes a formula leaves it no assignment
use Rattle.std.proofs.Common.{◌≡◌, ◌⊎◌, inl, inr, zero, add-one, ℕ, suc, ◌-◌, ◌≤◌, Bool, true, false, not, cond, List, [], ◌∷◌, ◌++◌, length, get_or, map, take, refl, sym, ◌∙◌, ap, subst, arith}
use Rattle.std.specs.Prelude.{All, Contains}
use Rattle.std.proofs.Math.Bool.{not-not}
use Rattle.std.proofs.lemmas.Bool.{false≢true, cases_Bool, or_cases, or_parts}
use Rattle.std.proofs.lemmas.List.{take_all}
use Rattle.std.proofs.lemmas.Option.{slice_get_within, get_or_from_slice_get}
use Rattle.std.proofs.lemmas.List.Elements.{Contains-push_cases, All-contains, All-nil, All-cons, All-more}
use Rattle.rr_cnf.specs.Clauses.{Literal, negated, literal_true, clause_true, Satisfies, IsUnsatisfiable}
use Rattle.rr_derive.specs.Derive.{Step, Names, Leads, Passes, Derives, Refutes}
use Rattle.rr_cnf.specs.Partial.{IsFalse, IsUnit}
use Rattle.rr_derive.proofs.MarkLaws.{negated-negated, Contains-negated}

module _ (a : ℕ → Bool) where
  negation_true : (l : Literal) → literal_true a (negated l) ≡ not (literal_true a l)
  negation_true l = by_sign l.negative
    where
      by_sign : (b : Bool) → cond (not b) (not (a l.var)) (a l.var) ≡ not (cond b (not (a l.var)) (a l.var))
      by_sign true = sym (not-not (a l.var))
      by_sign false = refl

  not_both : (l : Literal) → literal_true a l ≡ true → literal_true a (negated l) ≡ true → ⊥
  not_both l p q = false≢true (ap not (sym p) ∙ sym (negation_true l) ∙ q)

  -- a true clause has a true literal, and a false one none
  true_literal : (c : List Literal) → clause_true a c ≡ true → (l : Literal) × (Contains c l × (literal_true a l ≡ true))
  true_literal [] e = absurd (false≢true e)
  true_literal (l ∷ c) e = by_cases (true_literal c) (or_cases (literal_true a l) (clause_true a c) e)
    where
      by_cases : (clause_true a c ≡ true → (x : Literal) × (Contains c x × (literal_true a x ≡ true))) → ((literal_true a l ≡ true) ⊎ (clause_true a c ≡ true)) → (x : Literal) × (Contains (l ∷ c) x × (literal_true a x ≡ true))
      by_cases rest (inl t) = (l, ((0, omega arith, refl), t))
      by_cases rest (inr t) = let w = rest t in let k = w.1.0 in (w.0, ((suc k.0, omega (arith, k.1), k.2), w.1.1))

  false_literals : (c : List Literal) → clause_true a c ≡ false → All (λ l. literal_true a l ≡ false) c
  false_literals [] e = All-nil (λ l. literal_true a l ≡ false)
  false_literals (l ∷ c) e = let p = or_parts (literal_true a l) (clause_true a c) e in All-cons (λ l. literal_true a l ≡ false) l c p.0 (false_literals c p.1)

  AllTrue : List Literal → Type 0
  AllTrue held = All (λ l. literal_true a l ≡ true) held

  module _ (named : ℕ → List Literal → Type 0) (sound : (h : ℕ) (c : List Literal) → named h c → clause_true a c ≡ true) where
    cannot_lead : (hints : List ℕ) (held : List Literal) → ((l : Literal) → Contains held l → literal_true a l ≡ true) → Leads named held hints → ⊥
    cannot_lead [] held t lead = lead
    cannot_lead (h ∷ hs) held t lead = by_cases (λ l. cannot_lead hs (held ++ l ∷ [])) lead.1.1
      where
        c : List Literal
        c = lead.0

        some : (l : Literal) × (Contains c l × (literal_true a l ≡ true))
        some = true_literal c (sound h c lead.1.0)

        by_cases : ((l : Literal) → ((m : Literal) → Contains (held ++ l ∷ []) m → literal_true a m ≡ true) → Leads named (held ++ l ∷ []) hs → ⊥) → (IsFalse held c ⊎ ((l : Literal) × (IsUnit held c l × Leads named (held ++ l ∷ []) hs))) → ⊥
        by_cases rest (inl f) = not_both some.0 some.1.1 (t (negated some.0) (All-contains (λ l. Contains held (negated l)) c some.0 f some.1.0))
        by_cases rest (inr w) = rest w.0 (λ l k. added l (Contains-push_cases held w.0 l k)) w.1.1
          where
            this : literal_true a w.0 ≡ true
            this = others (All-contains (λ m. (m ≡ w.0) ⊎ Contains held (negated m)) c some.0 w.1.0.others some.1.0)
              where
                others : ((some.0 ≡ w.0) ⊎ Contains held (negated some.0)) → literal_true a w.0 ≡ true
                others (inl e) = subst (λ l. literal_true a l ≡ true) e some.1.1
                others (inr k) = absurd (not_both some.0 some.1.1 (t (negated some.0) k))

            added : (l : Literal) → (Contains held l ⊎ (w.0 ≡ l)) → literal_true a l ≡ true
            added l (inl k) = t l k
            added l (inr e) = subst (λ l. literal_true a l ≡ true) e this

    passes_true : (c : List Literal) (hints : List ℕ) → Passes named c hints → clause_true a c ≡ true
    passes_true c hints p = by_cases (cases_Bool (clause_true a c))
      where
        by_cases : ((clause_true a c ≡ true) ⊎ (clause_true a c ≡ false)) → clause_true a c ≡ true
        by_cases (inl t) = t
        by_cases (inr f) =
            absurd (cannot_lead hints (map negated c) (λ l k. sym (ap (literal_true a) (negated-negated l)) ∙ negation_true (negated l) ∙ ap not (All-contains (λ l. literal_true a l ≡ false) c (negated l) (false_literals c f) (Contains-negated c l k))) p.1)

  -- the clauses of a derivation are true, line by line
  module _ (cs : List (List Literal)) (sat : Satisfies a cs) (lines : List Step) (derives : Derives cs lines) where
    named_true : (k : ℕ) → All (λ s. clause_true a s.clause ≡ true) (take k lines) → (h : ℕ) (c : List Literal) → Names cs (take k lines) h c → clause_true a c ≡ true
    named_true k t h c (inl f) = subst (λ d. clause_true a d ≡ true) (get_or_from_slice_get cs (h - 1) c c f.1) (sat (h - 1) c (slice_get_within cs (h - 1) c f.1))
    named_true k t h c (inr w) = subst (λ d. clause_true a d ≡ true) w.1.2 (All-contains (λ s. clause_true a s.clause ≡ true) (take k lines) w.0 t w.1.0)

    prefix_true : (k : ℕ) → k ≤ length lines → All (λ s. clause_true a s.clause ≡ true) (take k lines)
    prefix_true zero h = All-nil (λ s. clause_true a s.clause ≡ true)
    prefix_true (suc k) h =
        let before = prefix_true k (omega arith) in
        let d : Step = record { id = 0; clause = []; hints = [] } in
        let here = passes_true (Names cs (take k lines)) (named_true k before) (get_or lines k d).clause (get_or lines k d).hints (derives k (omega arith) d) in
        rw (← add-one) (All-more (λ s. clause_true a s.clause ≡ true) lines k d (omega arith) before here)

    lines_true : All (λ s. clause_true a s.clause ≡ true) lines
    lines_true = subst (All (λ s. clause_true a s.clause ≡ true)) (take_all (length lines) lines (omega arith)) (prefix_true (length lines) (omega arith))

pub unsatisfiable : (cs : List (List Literal)) (lines : List Step) → Refutes cs lines → IsUnsatisfiable cs
unsatisfiable cs lines r a sat =
    let t = All-contains (λ s. clause_true a s.clause ≡ true) lines r.1.0 (lines_true a cs sat lines r.0) r.1.1.0 in
    let e : clause_true a [] ≡ true = subst (λ c. clause_true a c ≡ true) r.1.1.1 t in
    false≢true e
