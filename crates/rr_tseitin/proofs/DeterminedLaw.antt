use Rattle.std.specs.Prelude.{◌≡◌, ℕ, zero, suc, ◌+◌, ◌*◌, ◌/◌, ◌<◌, ◌≤◌, ◌⊎◌, Bool, true, false, not, List, [], ◌∷◌, length, get_or, flat_map, Contains, refl}
use Rattle.std.proofs.Common.{inl, inr, sym, ◌∙◌, ap, subst, arith}
use Rattle.std.proofs.Math.Bool.{not-not}
use Rattle.std.proofs.lemmas.Bool.{cases_eq, cases_lt, true≢false, false≢true}
use Rattle.std.proofs.lemmas.List.Elements.{All-cons, All-nil, Contains-append_left, Contains-append_right}
use Rattle.rr_circuit.specs.declared.Gate.{Gate}
use Rattle.rr_circuit.specs.Values.{OutputNetlist, IsNetlist}
use Rattle.rr_cnf.specs.Clauses.{Literal, negated}
use Rattle.rr_cnf.specs.Codes.{literal_of}
use Rattle.rr_tseitin.specs.Tseitin.{plain, gate_clauses, gates_clauses, output_clauses, formula_of}
use Rattle.rr_cnf.specs.Partial.{IsUnit, IsAssigned, Determined}

negated-negated : (l : Literal) → negated (negated l) ≡ l
negated-negated l = ap (λ b. record { var = l.var; negative = b }) (not-not l.negative)

same_or_not : (a b : Literal) → (a ≡ b) ⊎ (a ≡ b → ⊥)
same_or_not a b = by_var (cases_eq a.var b.var)
  where
    signs : (x y : Bool) → (x ≡ y) ⊎ (x ≡ y → ⊥)
    signs true true = inl refl
    signs true false = inr true≢false
    signs false true = inr false≢true
    signs false false = inl refl

    by_sign : a.var ≡ b.var → ((a.negative ≡ b.negative) ⊎ (a.negative ≡ b.negative → ⊥)) → (a ≡ b) ⊎ (a ≡ b → ⊥)
    by_sign v (inl s) = inl (ap (λ x. record { var = x; negative = a.negative }) v ∙ ap (λ x. record { var = b.var; negative = x }) s)
    by_sign v (inr s) = inr (λ e. s (ap (λ x. x.negative) e))

    by_var : ((a.var ≡ b.var) ⊎ (a.var ≡ b.var → ⊥)) → (a ≡ b) ⊎ (a ≡ b → ⊥)
    by_var (inl v) = by_sign v (signs a.negative b.negative)
    by_var (inr v) = inr (λ e. v (ap (λ x. x.var) e))

Contains-tail : (x : Literal) (xs : List Literal) (l : Literal) → Contains xs l → Contains (x ∷ xs) l
Contains-tail x xs l c = (suc c.0, omega (arith, c.1), c.2)

contains_or_not : (xs : List Literal) (l : Literal) → Contains xs l ⊎ (Contains xs l → ⊥)
contains_or_not [] l = inr (λ c. absurd (omega (arith, c.1)))
contains_or_not (x ∷ xs) l = by_cases (same_or_not x l) (contains_or_not xs l)
  where
    split : (x ≡ l → ⊥) → (Contains xs l → ⊥) → (k : ℕ) → k < length (x ∷ xs) → get_or (x ∷ xs) k l ≡ l → ⊥
    split p q zero h e = p e
    split p q (suc k) h e = q (k, omega arith, e)

    by_cases : ((x ≡ l) ⊎ (x ≡ l → ⊥)) → (Contains xs l ⊎ (Contains xs l → ⊥)) → Contains (x ∷ xs) l ⊎ (Contains (x ∷ xs) l → ⊥)
    by_cases (inl e) r = inl (0, omega arith, e)
    by_cases (inr p) (inl c) = inl (Contains-tail x xs l c)
    by_cases (inr p) (inr q) = inr (λ c. split p q c.0 c.1 c.2)

-- an assigned variable's literal is true or false
literal_cases : (held : List Literal) (l : Literal) → IsAssigned held l.var → Contains held l ⊎ Contains held (negated l)
literal_cases held l a = by_sign l.negative a
  where
    by_sign : (b : Bool) → IsAssigned held l.var → Contains held (record { var = l.var; negative = b }) ⊎ Contains held (record { var = l.var; negative = not b })
    by_sign false (inl p) = inl p
    by_sign false (inr n) = inr n
    by_sign true (inl p) = inr p
    by_sign true (inr n) = inl n

module _ (held : List Literal) (v : ℕ) (left right : Literal) where
  pos : Literal
  pos = plain v

  neg : Literal
  neg = negated (plain v)

  -- the gate's variable is assigned where its operands are
  gate_assigned : ((c : List Literal) → Contains ((negated (plain v) ∷ left ∷ []) ∷ (negated (plain v) ∷ right ∷ []) ∷ (plain v ∷ negated left ∷ negated right ∷ []) ∷ []) c → (l : Literal) → IsUnit held c l → ⊥) → (Contains held left ⊎ Contains held (negated left)) → (Contains held right ⊎ Contains held (negated right)) → (Contains held (plain v) ⊎ (Contains held (plain v) → ⊥)) → (Contains held (negated (plain v)) ⊎ (Contains held (negated (plain v)) → ⊥)) → IsAssigned held v
  gate_assigned quiet l r (inl p) n = inl p
  gate_assigned quiet l r (inr p) (inl n) = inr n
  gate_assigned quiet (inr l) r (inr p) (inr n) =
      absurd (quiet (negated (plain v) ∷ left ∷ []) (0, omega arith, refl) (negated (plain v)) (record {
        member = (0, omega arith, refl);
        not_true = n;
        not_false = p;
        others = All-cons (λ m. (m ≡ negated (plain v)) ⊎ Contains held (negated m)) (negated (plain v)) (left ∷ []) (inl refl) (All-cons (λ m. (m ≡ negated (plain v)) ⊎ Contains held (negated m)) left [] (inr l) (All-nil (λ m. (m ≡ negated (plain v)) ⊎ Contains held (negated m))));
      }))
  gate_assigned quiet (inl l) (inr r) (inr p) (inr n) =
      absurd (quiet (negated (plain v) ∷ right ∷ []) (1, omega arith, refl) (negated (plain v)) (record {
        member = (0, omega arith, refl);
        not_true = n;
        not_false = p;
        others = All-cons (λ m. (m ≡ negated (plain v)) ⊎ Contains held (negated m)) (negated (plain v)) (right ∷ []) (inl refl) (All-cons (λ m. (m ≡ negated (plain v)) ⊎ Contains held (negated m)) right [] (inr r) (All-nil (λ m. (m ≡ negated (plain v)) ⊎ Contains held (negated m))));
      }))
  gate_assigned quiet (inl l) (inl r) (inr p) (inr n) =
      let P : Literal → Type 0 = λ m. (m ≡ plain v) ⊎ Contains held (negated m) in
      absurd (quiet (plain v ∷ negated left ∷ negated right ∷ []) (2, omega arith, refl) (plain v) (record {
        member = (0, omega arith, refl);
        not_true = p;
        not_false = n;
        others = All-cons P (plain v) (negated left ∷ negated right ∷ []) (inl refl)
            (All-cons P (negated left) (negated right ∷ []) (inr (subst (Contains held) (sym (negated-negated left)) l))
            (All-cons P (negated right) [] (inr (subst (Contains held) (sym (negated-negated right)) r)) (All-nil P)));
      }))

abbrev Below : ℕ → List Gate → Type 0
Below v gs = (k : ℕ) (d : Gate) → k < length gs → (2 ≤ (get_or gs k d).left.0) × ((get_or gs k d).left.0 < 2 * (v + k)) × (2 ≤ (get_or gs k d).right.0) × ((get_or gs k d).right.0 < 2 * (v + k))

gates_assigned : (held : List Literal) (v : ℕ) (gs : List Gate) → ((c : List Literal) → Contains (gates_clauses v gs) c → (l : Literal) → IsUnit held c l → ⊥) → Below v gs → ((u : ℕ) → 1 ≤ u → u < v → IsAssigned held u) → (u : ℕ) → 1 ≤ u → u < v + length gs → IsAssigned held u
gates_assigned held v [] quiet b a u low high = a u low (omega arith)
gates_assigned held v (g ∷ gs) quiet b a u low high =
    let t = b 0 g (omega arith) in
    let left = literal_cases held (literal_of g.left.0) (a (g.left.0 / 2) (omega arith) (omega arith)) in
    let right = literal_cases held (literal_of g.right.0) (a (g.right.0 / 2) (omega arith) (omega arith)) in
    let here = gate_assigned held v (literal_of g.left.0) (literal_of g.right.0) (λ c k. quiet c (Contains-append_left (gate_clauses v g) (gates_clauses (v + 1) gs) c k)) left right (contains_or_not held (plain v)) (contains_or_not held (negated (plain v))) in
    gates_assigned held (v + 1) gs (λ c k. quiet c (Contains-append_right (gate_clauses v g) (gates_clauses (v + 1) gs) c k)) (λ k d h. let s = b (suc k) d (omega arith) in (s.0, omega (arith, s.1), s.2, omega (arith, s.3))) (λ w l h. next here w l (cases_lt w v) h) u low (omega arith)
  where
    next : IsAssigned held v → (w : ℕ) → 1 ≤ w → ((w < v) ⊎ (v ≤ w)) → w < v + 1 → IsAssigned held w
    next here w l (inl k) h = a w l k
    next here w l (inr k) h = subst (IsAssigned held) (let q : v ≡ w = omega arith in q) here

pub determined : (c : OutputNetlist) → IsNetlist c.netlist.inputs c.netlist.gates → Determined (formula_of c) c.netlist.inputs
determined c h held quiet a v low high =
    let n = c.netlist in
    gates_assigned held (n.inputs + 1) n.gates (λ x k. (quiet x (Contains-append_left (gates_clauses (n.inputs + 1) n.gates) (flat_map output_clauses c.outputs) x k)).1)
    (λ k d l. let t = h k d l in (t.0.0, omega (arith, t.0.1), t.1.0, omega (arith, t.1.1))) (λ u l k. a u l (omega arith)) v low (omega arith)
