-- the values of the wires solve the equations of the gates, and nothing else does
use Rattle.std.proofs.Common.{◌≡◌, ◌⊎◌, inl, inr, ℕ, zero, suc, ◌+◌, ◌*◌, ◌/◌, ◌%◌, ◌<◌, ◌≤◌, Bool, false, not, ◌&&◌, List, [], ◌∷◌, length, get_or, map, take, drop, take-append-drop, fold, refl, sym, ◌∙◌, ap, ap₂, arith, length-append}
use Rattle.std.specs.List.{range_with_len}
use Rattle.std.proofs.lemmas.Grind.{fold-append}
use Rattle.std.proofs.lemmas.List.{get_or_append_left, get_or_push, same_lists, take_more}
use Rattle.std.proofs.lemmas.List.Sums.{fold_push}
use Rattle.std.proofs.lemmas.List.FromFn.{length-map-range_with_len, get_or-map-range_with_len}
use Rattle.std.proofs.lemmas.Bool.{cases_eq, cases_lt}
use Rattle.rr_circuit.specs.declared.Wire.{Wire}
use Rattle.rr_circuit.specs.declared.Gate.{Gate}
use Rattle.rr_circuit.specs.Values.{Netlist, OutputNetlist, literal_value, with_gate, input_values, variable_values, wire_value, IsWire, IsNetlist, IsValuation, SolvesItsEquations, DependsOnInputs}
use Rattle.rr_circuit.proofs.Netlists.{get_or-fold, length-values_upto, wire_value-false, wire_value-input, literal_value-even}

pub literal_value-odd : (xs : List Bool) (v : ℕ) → literal_value xs (2 * v + 1) ≡ not (literal_value xs (2 * v))
literal_value-odd xs v =
    let e : (2 * v + 1) / 2 ≡ v = omega arith in
    let o : (2 * v + 1) % 2 ≡ 1 = omega arith in
    let f : (2 * v) / 2 ≡ v = omega arith in
    let z : (2 * v) % 2 ≡ 0 = omega arith in
    rw (o, z, e, f) refl

literal_value-fold : (gs : List Gate) (xs : List Bool) (w : ℕ) → w < 2 * length xs → literal_value (fold with_gate xs gs) w ≡ literal_value xs w
literal_value-fold gs xs w l = rw (get_or-fold gs xs (w / 2) (omega arith)) refl

-- the values, cut at a gate
values-split : (n : Netlist) (env : ℕ → Bool) (k : ℕ) (d : Gate) → k < length n.gates →
    variable_values n env ≡ fold with_gate (with_gate (fold with_gate (input_values n.inputs env) (take k n.gates)) (get_or n.gates k d)) (drop (k + 1) n.gates)
unfolding variable_values
values-split n env k d l =
    let start : List Bool = input_values n.inputs env in
    ap (fold with_gate start) (sym (take-append-drop (k + 1) n.gates))
    ∙ fold-append with_gate start (take (k + 1) n.gates) (drop (k + 1) n.gates)
    ∙ ap (λ xs. fold with_gate xs (drop (k + 1) n.gates)) (ap (fold with_gate start) (take_more n.gates k d l) ∙ fold_push with_gate start (take k n.gates) (get_or n.gates k d))

pub gate_equation : (n : Netlist) (env : ℕ → Bool) → IsNetlist n.inputs n.gates → (k : ℕ) (d : Gate) → k < length n.gates →
    wire_value n env (record { 0 = 2 * (1 + n.inputs + k) }) ≡ (wire_value n env (get_or n.gates k d).left && wire_value n env (get_or n.gates k d).right)
unfolding wire_value
gate_equation n env lawful k d l =
    let before : List Bool = fold with_gate (input_values n.inputs env) (take k n.gates) in
    let g : Gate = get_or n.gates k d in
    let rest : List Gate = drop (k + 1) n.gates in
    let split = values-split n env k d l in
    let size : length before ≡ 1 + n.inputs + k = length-values_upto n env k (omega arith) in
    let here = lawful k d l in
    let left_in = here.0.1 in
    let right_in = here.1.1 in
    let grown : length (with_gate before g) ≡ length before + 1 = length-append before ((literal_value before g.left.0 && literal_value before g.right.0) ∷ []) in
    literal_value-even _ (1 + n.inputs + k)
    ∙ ap (λ xs. get_or xs (1 + n.inputs + k) false) split
    ∙ get_or-fold rest (with_gate before g) (1 + n.inputs + k) (omega arith)
    ∙ get_or_push before _ false (1 + n.inputs + k) size
    ∙ ap₂ (λ x y. x && y)
    (sym (ap (λ xs. literal_value xs g.left.0) split ∙ literal_value-fold rest (with_gate before g) g.left.0 (omega arith) ∙ literal_value-with before g g.left.0 (omega arith)))
    (sym (ap (λ xs. literal_value xs g.right.0) split ∙ literal_value-fold rest (with_gate before g) g.right.0 (omega arith) ∙ literal_value-with before g g.right.0 (omega arith)))
  where
    literal_value-with : (xs : List Bool) (g : Gate) (w : ℕ) → w < 2 * length xs → literal_value (with_gate xs g) w ≡ literal_value xs w
    literal_value-with xs g w h = rw (get_or_append_left xs ((literal_value xs g.left.0 && literal_value xs g.right.0) ∷ []) false (w / 2) (omega arith)) refl

is_valuation : (n : Netlist) (env : ℕ → Bool) → IsNetlist n.inputs n.gates → IsValuation n env (wire_value n env)
unfolding wire_value
is_valuation n env lawful = record {
  constant = wire_value-false n env;
  negation = λ v. literal_value-odd (variable_values n env) v;
  input = λ k h. wire_value-input n k env h;
  gate = λ k d h. gate_equation n env lawful k d h;
}

-- two solutions agree
AgreeBelow : (Wire → Bool) → (Wire → Bool) → ℕ → Type 0
AgreeBelow f g bound = (v : ℕ) → v < bound → f (record { 0 = 2 * v }) ≡ g (record { 0 = 2 * v })

agree_at : (n : Netlist) (env : ℕ → Bool) (f g : Wire → Bool) (bound : ℕ) → IsValuation n env f → IsValuation n env g → AgreeBelow f g bound → (w : ℕ) → w < 2 * bound → f (record { 0 = w }) ≡ g (record { 0 = w })
unfolding AgreeBelow
agree_at n env f g bound p q same w h = by_cases (cases_eq (w % 2) 1)
  where
    by_cases : ((w % 2 ≡ 1) ⊎ (w % 2 ≡ 1 → ⊥)) → f (record { 0 = w }) ≡ g (record { 0 = w })
    by_cases (inl o) =
        let e : w ≡ 2 * (w / 2) + 1 = omega arith in
        ap (λ x. f (record { 0 = x })) e ∙ p.negation (w / 2) ∙ ap not (same (w / 2) (omega arith)) ∙ sym (q.negation (w / 2)) ∙ sym (ap (λ x. g (record { 0 = x })) e)
    by_cases (inr o) =
        let e : w ≡ 2 * (w / 2) = omega arith in
        ap (λ x. f (record { 0 = x })) e ∙ same (w / 2) (omega arith) ∙ sym (ap (λ x. g (record { 0 = x })) e)

agree_below : (n : Netlist) (env : ℕ → Bool) (f g : Wire → Bool) → IsNetlist n.inputs n.gates → IsValuation n env f → IsValuation n env g → (k : ℕ) → k ≤ length n.gates → AgreeBelow f g (1 + n.inputs + k)
unfolding AgreeBelow
agree_below n env f g lawful p q zero h = λ v l. by_cases v l
  where
    by_cases : (v : ℕ) → v < 1 + n.inputs + 0 → f (record { 0 = 2 * v }) ≡ g (record { 0 = 2 * v })
    by_cases zero l = p.constant ∙ sym q.constant
    by_cases (suc v) l =
        let e : 2 * suc v ≡ 2 * (v + 1) = omega arith in
        rw e (p.input v (omega arith) ∙ sym (q.input v (omega arith)))
agree_below n env f g lawful p q (suc k) h = λ v l. by_cases (agree_below n env f g lawful p q k (omega arith)) v l (cases_lt v (1 + n.inputs + k))
  where
    no_gate : Gate
    no_gate = record { left = record { 0 = 0 }; right = record { 0 = 0 } }

    by_cases : AgreeBelow f g (1 + n.inputs + k) → (v : ℕ) → v < 1 + n.inputs + suc k → ((v < 1 + n.inputs + k) ⊎ (1 + n.inputs + k ≤ v)) → f (record { 0 = 2 * v }) ≡ g (record { 0 = 2 * v })
    by_cases before v l (inl below) = before v below
    by_cases before v l (inr above) =
        let e : v ≡ 1 + n.inputs + k = omega arith in
        let here = lawful k no_gate (omega arith) in
        rw e (p.gate k no_gate (omega arith)
        ∙ ap₂ (λ x y. x && y) (agree_at n env f g (1 + n.inputs + k) p q before (get_or n.gates k no_gate).left.0 here.0.1) (agree_at n env f g (1 + n.inputs + k) p q before (get_or n.gates k no_gate).right.0 here.1.1)
        ∙ sym (q.gate k no_gate (omega arith)))

pub solves_its_equations : (n : Netlist) → IsNetlist n.inputs n.gates → SolvesItsEquations n
unfolding IsWire
solves_its_equations n lawful = λ env. (
  is_valuation n env lawful,
  λ value h w i.
      agree_at n env value (wire_value n env) (1 + n.inputs + length n.gates) h (is_valuation n env lawful)
      (agree_below n env value (wire_value n env) lawful h (is_valuation n env lawful) (length n.gates) (omega arith)) w.0 i,
)

-- the values depend on the inputs alone
pub values-inputs : (n : Netlist) (e f : ℕ → Bool) → ((k : ℕ) → k < n.inputs → e k ≡ f k) → variable_values n e ≡ variable_values n f
unfolding variable_values
values-inputs n e f same =
    ap (λ xs. fold with_gate (false ∷ xs) n.gates) (same_lists (map e (range_with_len 0 n.inputs)) (map f (range_with_len 0 n.inputs))
    (length-map-range_with_len e 0 n.inputs ∙ sym (length-map-range_with_len f 0 n.inputs))
    (λ k d h. let l = length-map-range_with_len e 0 n.inputs in
    get_or-map-range_with_len e 0 n.inputs k k d (omega arith) (omega arith) ∙ same k (omega arith) ∙ sym (get_or-map-range_with_len f 0 n.inputs k k d (omega arith) (omega arith))))

pub depends_on_inputs : (c : OutputNetlist) → DependsOnInputs c
unfolding wire_value
depends_on_inputs c = λ e f same. ap (λ xs. map (λ w. literal_value xs w.0) c.outputs) (values-inputs c.netlist e f same)
