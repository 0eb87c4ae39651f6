-- the clause of the test that adds under decisions
use Rattle.std.proofs.Common.{◌≡◌, ◌⊎◌, inl, inr, ℕ, ◌+◌, Bool, true, false, List, [], ◌∷◌, ◌++◌, refl, sym, ◌∙◌, ap, subst, arith}
use Rattle.std.specs.Prelude.{Contains, None}
use Rattle.std.proofs.lemmas.List.Elements.{All-nil, All-cons, Contains-push_cases}
use Rattle.rr_cnf.specs.Clauses.{Literal, negated}
use Rattle.rr_trail.specs.Trails.{Entry, lits}
use Rattle.rr_watch.specs.Watches.{State, Asserts, MayAdd}

abbrev pub literal : ℕ → Literal
literal n = record { var = n; negative = false }

abbrev pub decided : ℕ → ℕ → Entry
decided n level = record { lit = literal n; level = level; reason = None }

abbrev pub two_decided : List Entry
two_decided = decided 1 1 ∷ decided 2 2 ∷ []

abbrev pub learned : List Literal
learned = negated (literal 1) ∷ negated (literal 2) ∷ literal 3 ∷ []

one_of_two : (x y z : Literal) → Contains (x ∷ y ∷ []) z → (x ≡ z) ⊎ (y ≡ z)
one_of_two x y z c = elim (Contains-push_cases (x ∷ []) y z c) [
  | inl a ↦ elim (Contains-push_cases [] x z a) [ inl b ↦ absurd (omega (arith, b.1)) | inr b ↦ inl b ]
  | inr a ↦ inr a
]

apart_vars : (a b : Literal) → a ≡ b → (a.var ≡ b.var → ⊥) → ⊥
apart_vars a b e f = f (ap (λ l. l.var) e)

away : (n : Bool) → Contains (lits two_decided) (record { var = 3; negative = n }) → ⊥
away n c = elim (one_of_two (literal 1) (literal 2) (record { var = 3; negative = n }) c) [
  | inl e ↦ apart_vars (literal 1) (record { var = 3; negative = n }) e (λ z. omega arith)
  | inr e ↦ apart_vars (literal 2) (record { var = 3; negative = n }) e (λ z. omega arith)
]

pub third_asserts : Asserts two_decided 2 learned
third_asserts = record {
  lit = literal 3;
  unit = record {
    member = (2, omega arith, refl);
    not_true = away false;
    not_false = away true;
    others = All-cons (λ (m : Literal). (m ≡ literal 3) ⊎ Contains (lits two_decided) (negated m)) (negated (literal 1)) (negated (literal 2) ∷ literal 3 ∷ []) (inr (0, omega arith, refl))
        (All-cons (λ (m : Literal). (m ≡ literal 3) ⊎ Contains (lits two_decided) (negated m)) (negated (literal 2)) (literal 3 ∷ []) (inr (1, omega arith, refl))
        (All-cons (λ (m : Literal). (m ≡ literal 3) ⊎ Contains (lits two_decided) (negated m)) (literal 3) [] (inl refl) (All-nil (λ (m : Literal). (m ≡ literal 3) ⊎ Contains (lits two_decided) (negated m)))));
  };
  late = inr (record { place = 1; inside = omega arith; member = (1, omega arith, refl); level = refl });
}

-- the condition, after the calls of the test
pub third_may : (s0 s1 s2 : State) (l1 l2 n1 n2 l3 : Literal) (c : List Literal) → s0.trail ≡ [] → s0.depth ≡ 0
    → s1.trail ≡ s0.trail ++ record { lit = l1; level = s0.depth + 1; reason = None } ∷ [] → s1.depth ≡ s0.depth + 1
    → s2.trail ≡ s1.trail ++ record { lit = l2; level = s1.depth + 1; reason = None } ∷ [] → s2.depth ≡ s1.depth + 1
    → l1 ≡ literal 1 → l2 ≡ literal 2 → n1 ≡ negated l1 → n2 ≡ negated l2 → l3 ≡ literal 3 → c ≡ n1 ∷ n2 ∷ l3 ∷ [] → MayAdd s2.trail s2.depth c
third_may s0 s1 s2 l1 l2 n1 n2 l3 c t0 d0 t1 d1 t2 d2 e1 e2 m1 m2 e3 ec =
    let deep1 : s1.depth ≡ 1 = d1 ∙ ap (λ n. n + 1) d0 in
    let deep2 : s2.depth ≡ 2 = d2 ∙ ap (λ n. n + 1) deep1 in
    let one : s1.trail ≡ decided 1 1 ∷ [] = t1 ∙ ap (λ t. t ++ record { lit = l1; level = s0.depth + 1; reason = None } ∷ []) t0 ∙ ap (λ l. record { lit = l; level = s0.depth + 1; reason = None } ∷ []) e1 ∙ ap (λ n. record { lit = literal 1; level = n + 1; reason = None } ∷ []) d0 in
    let both : s2.trail ≡ two_decided = t2 ∙ ap (λ t. t ++ record { lit = l2; level = s1.depth + 1; reason = None } ∷ []) one ∙ ap (λ l. decided 1 1 ∷ record { lit = l; level = s1.depth + 1; reason = None } ∷ []) e2 ∙ ap (λ n. decided 1 1 ∷ record { lit = literal 2; level = n + 1; reason = None } ∷ []) deep1 in
    let k1 : n1 ≡ negated (literal 1) = m1 ∙ ap negated e1 in
    let k2 : n2 ≡ negated (literal 2) = m2 ∙ ap negated e2 in
    let whole : c ≡ learned = ec ∙ ap (λ x. x ∷ n2 ∷ l3 ∷ []) k1 ∙ ap (λ x. negated (literal 1) ∷ x ∷ l3 ∷ []) k2 ∙ ap (λ x. negated (literal 1) ∷ negated (literal 2) ∷ x ∷ []) e3 in
    subst (λ x. MayAdd x s2.depth c) (sym both) (subst (λ x. MayAdd two_decided x c) (sym deep2) (subst (MayAdd two_decided 2) (sym whole) (inr third_asserts)))
