-- a circuit's formula is satisfiable exactly where the outputs can be true
use Rattle.std.proofs.Common.{◌≡◌, zero, subst, ◌⊎◌, ◌↔◌, inl, inr, ℕ, suc, ◌+◌, ◌*◌, ◌/◌, ◌<◌, ◌≤◌, Bool, true, false, not, ◌&&◌, ◌||◌, cond, List, [], ◌∷◌, ◌++◌, length, get_or, map, take, fold, refl, sym, ◌∙◌, ap, arith}
use Rattle.std.specs.Prelude.{All, flat_map}
use Rattle.std.specs.List.{AllByRecursion as ByRecursion}
use Rattle.std.proofs.Math.Bool.{not-not}
use Rattle.std.proofs.lemmas.List.{get_or_append_left, get_or_push, length_push, take_more, length-take-le}
use Rattle.std.proofs.lemmas.List.FromFn.{length-map-range_with_len, get_or-map-range_with_len}
use Rattle.std.proofs.lemmas.List.Elements.{All-weaker, All-from_recursion, recursion_from_All}
use Rattle.std.proofs.lemmas.Bool.{true≢false, false≢true, eq-eqb, ne_eqb, cases_eq, cases_lt}
use Rattle.rr_circuit.specs.declared.Wire.{Wire}
use Rattle.rr_circuit.specs.declared.Gate.{Gate}
use Rattle.rr_circuit.specs.Values.{Netlist, OutputNetlist, literal_value, with_gate, input_values, variable_values, wire_value, output_values, IsWire, IsNetlist, AreWires}
use Rattle.rr_circuit.proofs.Netlists.{length-fold, wire_in_values, literal_value-false, get_or-fold}
use Rattle.rr_cnf.specs.Clauses.{Literal, negated, literal_true, clause_true, Satisfies, IsSatisfiable}
use Rattle.rr_cnf.specs.Codes.{literal_of}
use Rattle.rr_tseitin.specs.Tseitin.{plain, gate_clauses, gates_clauses, output_clauses, formula_of, CanBeTrue}

-- in the code

pub gates_clauses-push : (v : ℕ) (gs : List Gate) (g : Gate) → gates_clauses v (gs ++ g ∷ []) ≡ gates_clauses v gs ++ gate_clauses (v + length gs) g
gates_clauses-push v [] g = let e : v + 0 ≡ v = omega arith in rw e refl
gates_clauses-push v (h ∷ gs) g =
    let e : v + suc (length gs) ≡ (v + 1) + length gs = omega arith in
    rw (e, gates_clauses-push (v + 1) gs g) refl

pub gates_clauses-more : (v : ℕ) (gs : List Gate) (k at : ℕ) (d : Gate) → k < length gs → v + k ≡ at → gates_clauses v (take (k + 1) gs) ≡ gates_clauses v (take k gs) ++ gate_clauses at (get_or gs k d)
gates_clauses-more v gs k at d h e =
    let l : v + length (take k gs) ≡ at = omega (arith, length-take-le k gs (omega arith)) in
    rw (take_more gs k d h, gates_clauses-push, l) refl

pub wire_below : (n : Netlist) (w : Wire) → IsWire n w → w.0 < 2 * (1 + (n.inputs + length n.gates))
unfolding IsWire
wire_below n w h = omega arith

-- the law

-- the assignment gives each gate its value
abbrev AgreesWith : (ℕ → Bool) → ℕ → List Gate → Type 0
AgreesWith a v [] = Unit {0}
AgreesWith a v (g ∷ gs) = (a v ≡ (literal_true a (literal_of g.left.0) && literal_true a (literal_of g.right.0))) × AgreesWith a (v + 1) gs

-- for three values: the clauses of a gate say that it is the conjunction
three_from : (o l r : Bool) → o ≡ (l && r) → ((not o || (l || false)) ≡ true) × ((not o || (r || false)) ≡ true) × ((o || (not l || (not r || false))) ≡ true)
three_from true true true e = (refl, refl, refl)
three_from true true false e = absurd (true≢false e)
three_from true false r e = absurd (true≢false e)
three_from false true true e = absurd (false≢true e)
three_from false true false e = (refl, refl, refl)
three_from false false r e = (refl, refl, refl)

from_three : (o l r : Bool) → (not o || (l || false)) ≡ true → (not o || (r || false)) ≡ true → (o || (not l || (not r || false))) ≡ true → o ≡ (l && r)
from_three true true true p q s = refl
from_three true true false p q s = absurd (false≢true q)
from_three true false r p q s = absurd (false≢true p)
from_three false true true p q s = absurd (false≢true s)
from_three false true false p q s = refl
from_three false false r p q s = refl

literal_true-negated : (a : ℕ → Bool) (l : Literal) → literal_true a (negated l) ≡ not (literal_true a l)
literal_true-negated a l = by_sign l.negative
  where
    by_sign : (b : Bool) → cond (not b) (not (a l.var)) (a l.var) ≡ not (cond b (not (a l.var)) (a l.var))
    by_sign true = sym (not-not (a l.var))
    by_sign false = refl

-- every clause is true, as pairs
abbrev Sat : (ℕ → Bool) → List (List Literal) → Type 0
Sat a cs = ByRecursion (λ c. clause_true a c ≡ true) cs

sat_parts : (a : ℕ → Bool) (xs ys : List (List Literal)) → Sat a (xs ++ ys) → Sat a xs × Sat a ys
sat_parts a [] ys h = (tt, h)
sat_parts a (x ∷ xs) ys h = let r = sat_parts a xs ys h.1 in ((h.0, r.0), r.1)

sat_append : (a : ℕ → Bool) (xs ys : List (List Literal)) → Sat a xs → Sat a ys → Sat a (xs ++ ys)
sat_append a [] ys h k = k
sat_append a (x ∷ xs) ys h k = (h.0, sat_append a xs ys h.1 k)

agrees-from_clauses : (a : ℕ → Bool) (v : ℕ) (gs : List Gate) → Sat a (gates_clauses v gs) → AgreesWith a v gs
agrees-from_clauses a v [] s = tt
agrees-from_clauses a v (g ∷ gs) s =
    let third = rw (literal_true-negated a (literal_of g.left.0), literal_true-negated a (literal_of g.right.0)) at s.1.1.0 in
    (from_three _ _ _ s.0 s.1.0 third, agrees-from_clauses a (v + 1) gs s.1.1.1)

clauses-from_agrees : (a : ℕ → Bool) (v : ℕ) (gs : List Gate) → AgreesWith a v gs → Sat a (gates_clauses v gs)
clauses-from_agrees a v [] s = tt
clauses-from_agrees a v (g ∷ gs) s =
    let t = three_from _ _ _ s.0 in
    let third : clause_true a (plain v ∷ negated (literal_of g.left.0) ∷ negated (literal_of g.right.0) ∷ []) ≡ true = rw (literal_true-negated a (literal_of g.left.0), literal_true-negated a (literal_of g.right.0)) t.2 in
    (t.0, (t.1, (third, clauses-from_agrees a (v + 1) gs s.1)))

-- the values of the variables are those of the assignment
abbrev SameAt : (ℕ → Bool) → List Bool → Type 0
SameAt a xs = (p : ℕ) → 1 ≤ p → p < length xs → get_or xs p false ≡ a p

abbrev Below : ℕ → List Gate → Type 0
Below v gs = (k : ℕ) (d : Gate) → k < length gs → (2 ≤ (get_or gs k d).left.0) × ((get_or gs k d).left.0 < 2 * (v + k)) × (2 ≤ (get_or gs k d).right.0) × ((get_or gs k d).right.0 < 2 * (v + k))

Below-tail : (v : ℕ) (g : Gate) (gs : List Gate) → Below v (g ∷ gs) → Below (v + 1) gs
Below-tail v g gs h k d l = let t = h (suc k) d (omega arith) in (t.0, omega arith, t.2, omega arith)

same_literal : (a : ℕ → Bool) (xs : List Bool) (w : ℕ) → SameAt a xs → 2 ≤ w → w < 2 * length xs → literal_value xs w ≡ literal_true a (literal_of w)
same_literal a xs w h low high = rw (h (w / 2) (omega arith) (omega arith)) refl

SameAt-fold : (a : ℕ → Bool) (v : ℕ) (xs : List Bool) (gs : List Gate) → v ≡ length xs → SameAt a xs → AgreesWith a v gs → Below v gs → SameAt a (fold with_gate xs gs)
SameAt-fold a v xs [] e h s b = h
SameAt-fold a v xs (g ∷ gs) e h s b =
    let t = b 0 g (omega arith) in
    let left = same_literal a xs g.left.0 h (omega arith) (omega arith) in
    let right = same_literal a xs g.right.0 h (omega arith) (omega arith) in
    let here : (literal_value xs g.left.0 && literal_value xs g.right.0) ≡ a v = rw (left, right) (sym s.0) in
    let n = length_push xs (literal_value xs g.left.0 && literal_value xs g.right.0) in
    SameAt-fold a (v + 1) (with_gate xs g) gs (omega arith) (λ p low high. one here p low high (cases_lt p (length xs))) s.1 (Below-tail v g gs b)
  where
    one : (literal_value xs g.left.0 && literal_value xs g.right.0) ≡ a v → (p : ℕ) → 1 ≤ p → p < length (with_gate xs g) → ((p < length xs) ⊎ (length xs ≤ p)) → get_or (with_gate xs g) p false ≡ a p
    one here p low high (inl below) = get_or_append_left xs _ false p below ∙ h p low below
    one here p low high (inr above) =
        let n = length_push xs (literal_value xs g.left.0 && literal_value xs g.right.0) in
        let q : length xs ≡ p = omega arith in
        let r : v ≡ p = omega arith in
        get_or_push xs _ false p q ∙ here ∙ ap a r

AgreesWith-fold : (a : ℕ → Bool) (v : ℕ) (xs : List Bool) (gs : List Gate) → v ≡ length xs → 1 ≤ v → SameAt a (fold with_gate xs gs) → Below v gs → AgreesWith a v gs
AgreesWith-fold a v xs [] e o h b = tt
AgreesWith-fold a v xs (g ∷ gs) e o h b =
    let t = b 0 g (omega arith) in
    let n = length_push xs (literal_value xs g.left.0 && literal_value xs g.right.0) in
    let m = length-fold (with_gate xs g) gs in
    let before : SameAt a xs = λ p low high. sym (get_or-fold (g ∷ gs) xs p high) ∙ h p low (omega arith) in
    let left = same_literal a xs g.left.0 before (omega arith) (omega arith) in
    let right = same_literal a xs g.right.0 before (omega arith) (omega arith) in
    let here : a v ≡ (literal_value xs g.left.0 && literal_value xs g.right.0) = sym (h v o (omega arith)) ∙ get_or-fold gs (with_gate xs g) v (omega arith) ∙ get_or_push xs _ false v (sym e) in
    (here ∙ rw (left, right) refl, AgreesWith-fold a (v + 1) (with_gate xs g) gs (omega arith) (omega arith) h (Below-tail v g gs b))

SameAt-inputs : (a : ℕ → Bool) (n : ℕ) → SameAt a (input_values n (λ i. a (i + 1)))
SameAt-inputs a n zero low high = absurd (omega arith)
SameAt-inputs a n (suc p) low high =
    let l = length-map-range_with_len (λ i. a (i + 1)) 0 n in
    get_or-map-range_with_len (λ i. a (i + 1)) 0 n p p false (omega arith) (omega arith) ∙ ap a (omega arith)

-- the outputs
output_clauses-one : (w : Wire) → w.0 ≡ 1 → output_clauses w ≡ []
output_clauses-one w e = rw (eq-eqb w.0 1 e) refl

output_clauses-zero : (w : Wire) → w.0 ≡ 0 → output_clauses w ≡ [] ∷ []
output_clauses-zero w e = rw (ne_eqb w.0 1 (omega arith), eq-eqb w.0 0 e) refl

output_clauses-other : (w : Wire) → (w.0 ≡ 1 → ⊥) → (w.0 ≡ 0 → ⊥) → output_clauses w ≡ (literal_of w.0 ∷ []) ∷ []
output_clauses-other w p q = rw (ne_eqb w.0 1 p, ne_eqb w.0 0 q) refl

or-false : (x : Bool) → (x || false) ≡ x
or-false true = refl
or-false false = refl

module _ (a : ℕ → Bool) (xs : List Bool) (zero_is : get_or xs 0 false ≡ false) (same : SameAt a xs) where
  output_true : (w : Wire) → w.0 < 2 * length xs → Sat a (output_clauses w) → literal_value xs w.0 ≡ true
  output_true w l s = by_cases (cases_eq w.0 1) (cases_eq w.0 0)
    where
      by_cases : ((w.0 ≡ 1) ⊎ (w.0 ≡ 1 → ⊥)) → ((w.0 ≡ 0) ⊎ (w.0 ≡ 0 → ⊥)) → literal_value xs w.0 ≡ true
      by_cases (inl e) _ = rw (e, zero_is) refl
      by_cases (inr p) (inl e) = let k = subst (Sat a) (output_clauses-zero w e) s in absurd (false≢true k.0)
      by_cases (inr p) (inr q) =
          let k = subst (Sat a) (output_clauses-other w p q) s in
          same_literal a xs w.0 same (omega arith) l ∙ sym (or-false _) ∙ k.0

  output_holds : (w : Wire) → w.0 < 2 * length xs → literal_value xs w.0 ≡ true → Sat a (output_clauses w)
  output_holds w l t = by_cases (cases_eq w.0 1) (cases_eq w.0 0)
    where
      by_cases : ((w.0 ≡ 1) ⊎ (w.0 ≡ 1 → ⊥)) → ((w.0 ≡ 0) ⊎ (w.0 ≡ 0 → ⊥)) → Sat a (output_clauses w)
      by_cases (inl e) _ = subst (Sat a) (sym (output_clauses-one w e)) tt
      by_cases (inr p) (inl e) = absurd (false≢true (sym zero_is ∙ (rw e at t)))
      by_cases (inr p) (inr q) = subst (Sat a) (sym (output_clauses-other w p q)) (or-false _ ∙ sym (same_literal a xs w.0 same (omega arith) l) ∙ t, tt)

  outputs_true : (ws : List Wire) → ByRecursion (λ w. w.0 < 2 * length xs) ws → Sat a (flat_map output_clauses ws) → ByRecursion (λ b. b ≡ true) (map (λ w. literal_value xs w.0) ws)
  outputs_true [] l s = tt
  outputs_true (w ∷ ws) l s = let p = sat_parts a (output_clauses w) (flat_map output_clauses ws) s in (output_true w l.0 p.0, outputs_true ws l.1 p.1)

  outputs_hold : (ws : List Wire) → ByRecursion (λ w. w.0 < 2 * length xs) ws → ByRecursion (λ b. b ≡ true) (map (λ w. literal_value xs w.0) ws) → Sat a (flat_map output_clauses ws)
  outputs_hold [] l s = tt
  outputs_hold (w ∷ ws) l s = sat_append a (output_clauses w) (flat_map output_clauses ws) (output_holds w l.0 s.0) (outputs_hold ws l.1 s.1)

Below-netlist : (n : Netlist) → IsNetlist n.inputs n.gates → Below (n.inputs + 1) n.gates
Below-netlist n h k d l = let t = h k d l in (t.0.0, omega (arith, t.0.1), t.1.0, omega (arith, t.1.1))

outputs_below : (n : Netlist) (env : ℕ → Bool) (ws : List Wire) → AreWires n ws → ByRecursion (λ w. w.0 < 2 * length (variable_values n env)) ws
outputs_below n env ws h = recursion_from_All _ ws (All-weaker (IsWire n) _ (λ w k. wire_in_values n env w k) ws h)

can_be_true : (c : OutputNetlist) → IsNetlist c.netlist.inputs c.netlist.gates → AreWires c.netlist c.outputs → IsSatisfiable (formula_of c).clauses → CanBeTrue c
unfolding variable_values wire_value
can_be_true c h w s =
    let n = c.netlist in
    let a = s.0 in
    let env : ℕ → Bool = λ i. a (i + 1) in
    let p = sat_parts a (gates_clauses (n.inputs + 1) n.gates) (flat_map output_clauses c.outputs) (recursion_from_All _ _ s.1) in
    let l = length-map-range_with_len env 0 n.inputs in
    let same : SameAt a (variable_values n env) = SameAt-fold a (n.inputs + 1) (input_values n.inputs env) n.gates (omega arith) (SameAt-inputs a n.inputs) (agrees-from_clauses a (n.inputs + 1) n.gates p.0) (Below-netlist n h) in
    (env, All-from_recursion _ _ (outputs_true a (variable_values n env) (literal_value-false env n) same c.outputs (outputs_below n env c.outputs w) p.1))

is_satisfiable : (c : OutputNetlist) → IsNetlist c.netlist.inputs c.netlist.gates → AreWires c.netlist c.outputs → CanBeTrue c → IsSatisfiable (formula_of c).clauses
unfolding variable_values wire_value
is_satisfiable c h w s =
    let n = c.netlist in
    let env = s.0 in
    let a : ℕ → Bool = λ p. get_or (variable_values n env) p false in
    let same : SameAt a (variable_values n env) = λ p low high. refl in
    let l = length-map-range_with_len env 0 n.inputs in
    let agrees = AgreesWith-fold a (n.inputs + 1) (input_values n.inputs env) n.gates (omega arith) (omega arith) same (Below-netlist n h) in
    (a, All-from_recursion _ _ (sat_append a (gates_clauses (n.inputs + 1) n.gates) (flat_map output_clauses c.outputs) (clauses-from_agrees a (n.inputs + 1) n.gates agrees) (outputs_hold a (variable_values n env) (literal_value-false env n) same c.outputs (outputs_below n env c.outputs w) (recursion_from_All _ _ s.1))))

pub satisfiable-iff : (c : OutputNetlist) → IsNetlist c.netlist.inputs c.netlist.gates → AreWires c.netlist c.outputs → IsSatisfiable (formula_of c).clauses ↔ CanBeTrue c
satisfiable-iff c h w = (can_be_true c h w, is_satisfiable c h w)

-- an assignment that satisfies the formula gives inputs that make every output true
pub model_true : (c : OutputNetlist) → IsNetlist c.netlist.inputs c.netlist.gates → AreWires c.netlist c.outputs → (a : ℕ → Bool) → Satisfies a (formula_of c).clauses → All (λ (b : Bool). b ≡ true) (output_values c (λ i. a (i + 1)))
unfolding can_be_true
model_true c h w a s = (can_be_true c h w (a, s)).1
