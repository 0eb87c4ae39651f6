-- what a builder's calls leave of a netlist, and the values of the wires that they answer
use Rattle.std.proofs.Common.{◌≡◌, ◌⊎◌, inl, inr, ℕ, ◌+◌, ◌*◌, ◌/◌, ◌%◌, ◌<◌, ◌≤◌, Bool, true, false, not, ◌&&◌, List, [], ◌∷◌, ◌++◌, length, get_or, map, take, fold, refl, sym, ◌∙◌, ap, arith, length-append, add-one}
use Rattle.std.specs.Int.Bits.{bit_xor, xor_add_and}
use Rattle.std.specs.List.{range_with_len}
use Rattle.std.proofs.Math.Bool.{not-not, and-false, and-true, and_self, not-and_self}
use Rattle.std.proofs.lemmas.Grind.{fold-append, and_numeral}
use Rattle.std.proofs.lemmas.List.{get_or_append_left, get_or_push, same_lists, get_or_default, length-take-le, take_all}
use Rattle.std.proofs.lemmas.List.Elements.{All-weaker, All-head, All-tail, All-push}
use Rattle.std.proofs.lemmas.List.FromFn.{length-map-range_with_len, get_or-map-range_with_len}
use Rattle.std.proofs.lemmas.Bool.{cases_eq, cases_lt}
use Rattle.rr_circuit.specs.declared.Wire.{Wire}
use Rattle.rr_circuit.specs.declared.Gate.{Gate}
use Rattle.rr_circuit.specs.Values.{given, Netlist, variables, literal_value, with_gate, input_values, variable_values, wire_value, wire_values, AreWires, IsWire, IsGateAt, IsNetlist, AreOrdered, Extends}

pub xor_one : (w : ℕ) → bit_xor w 1 + 2 * (w % 2) ≡ w + 1
xor_one w = let m = and_numeral w 0 refl in let x = xor_add_and w 1 in omega arith

-- the values of the variables are as many as the variables
pub length-fold : (values : List Bool) (gates : List Gate) → length (fold with_gate values gates) ≡ length values + length gates
length-fold values [] = omega arith
length-fold values (g ∷ gs) =
    let h = length-fold (with_gate values g) gs in
    let p = length-append values ((literal_value values g.left.0 && literal_value values g.right.0) ∷ []) in
    omega arith

pub length-variable_values : (n : Netlist) (env : ℕ → Bool) → length (variable_values n env) ≡ variables n
unfolding variable_values
length-variable_values n env =
    let h = length-fold (input_values n.inputs env) n.gates in
    let k = length-map-range_with_len env 0 n.inputs in
    omega arith

pub literal_value-append : (xs ys : List Bool) (w : ℕ) → w / 2 < length xs → literal_value (xs ++ ys) w ≡ literal_value xs w
literal_value-append xs ys w h = rw (get_or_append_left xs ys false (w / 2) h)

-- one gate more
abbrev pub plus_gate : Netlist → Gate → Netlist
plus_gate n g = record { inputs = n.inputs; gates = n.gates ++ g ∷ [] }

variable_values-push : (n : Netlist) (g : Gate) (env : ℕ → Bool) → variable_values (plus_gate n g) env ≡ with_gate (variable_values n env) g
unfolding variable_values
variable_values-push n g env = fold-append with_gate (input_values n.inputs env) n.gates (g ∷ [])

pub Extends-push : (n : Netlist) (g : Gate) → Extends n (plus_gate n g)
unfolding IsWire wire_value
Extends-push n g = record {
  inputs = refl;
  wires = λ w h. let p = length-append n.gates (g ∷ []) in omega arith;
  values = λ env w h.
      let l = length-variable_values n env in
      rw variable_values-push (literal_value-append _ _ w.0 (omega arith));
}

pub IsWire-gate : (n : Netlist) (g : Gate) (at : ℕ) → at ≡ variables n → IsWire (plus_gate n g) (record { 0 = 2 * at })
unfolding IsWire
IsWire-gate n g at e = let p = length-append n.gates (g ∷ []) in omega arith

pub literal_value-even : (xs : List Bool) (v : ℕ) → literal_value xs (2 * v) ≡ get_or xs v false
literal_value-even xs v =
    let e : (2 * v) / 2 ≡ v = omega arith in
    let z : (2 * v) % 2 ≡ 0 = omega arith in
    rw (z, e)

pub wire_value-gate : (n : Netlist) (g : Gate) (env : ℕ → Bool) (at : ℕ) → at ≡ variables n → wire_value (plus_gate n g) env (record { 0 = 2 * at }) ≡ (wire_value n env g.left && wire_value n env g.right)
unfolding wire_value
wire_value-gate n g env at e =
    let l = length-variable_values n env in
    literal_value-even _ at ∙ rw variable_values-push (get_or_push _ _ false at (omega arith))

pub Extends-refl : (n : Netlist) → Extends n n
Extends-refl n = record { inputs = refl; wires = λ w h. h; values = λ env w h. refl }

pub Extends-trans : (a b c : Netlist) → Extends a b → Extends b c → Extends a c
Extends-trans a b c p q = record {
  inputs = q.inputs ∙ p.inputs;
  wires = λ w h. q.wires w (p.wires w h);
  values = λ env w h. q.values env w (p.wires w h) ∙ p.values env w h;
}

-- the constants
pub IsWire-constant : (n : Netlist) (k : ℕ) → k < 2 → IsWire n (record { 0 = k })
unfolding IsWire
IsWire-constant n k h = omega arith

pub literal_value-false : (env : ℕ → Bool) (n : Netlist) → get_or (variable_values n env) 0 false ≡ false
unfolding variable_values
literal_value-false env n = go n.gates (input_values n.inputs env) (omega arith) refl
  where
    go : (gs : List Gate) (xs : List Bool) → 0 < length xs → get_or xs 0 false ≡ false → get_or (fold with_gate xs gs) 0 false ≡ false
    go [] xs l e = e
    go (g ∷ gs) xs l e = go gs (with_gate xs g) (let p = length-append xs ((literal_value xs g.left.0 && literal_value xs g.right.0) ∷ []) in omega arith) (get_or_append_left xs _ false 0 l ∙ e)

pub wire_value-false : (n : Netlist) (env : ℕ → Bool) → wire_value n env (record { 0 = 0 }) ≡ false
unfolding wire_value
wire_value-false n env = literal_value-false env n

pub wire_value-true : (n : Netlist) (env : ℕ → Bool) → wire_value n env (record { 0 = 1 }) ≡ true
unfolding wire_value
wire_value-true n env = rw literal_value-false

-- the negation
pub IsWire-flip : (n : Netlist) (w : Wire) → IsWire n w → IsWire n (record { 0 = bit_xor w.0 1 })
unfolding IsWire
IsWire-flip n w h = let x = xor_one w.0 in omega arith

literal_value-flip : (xs : List Bool) (w f : ℕ) → f + 2 * (w % 2) ≡ w + 1 → literal_value xs f ≡ not (literal_value xs w)
literal_value-flip xs w f e = by_cases (cases_eq (w % 2) 1)
  where
    h : f / 2 ≡ w / 2
    h = omega arith

    by_cases : ((w % 2 ≡ 1) ⊎ (w % 2 ≡ 1 → ⊥)) → literal_value xs f ≡ not (literal_value xs w)
    by_cases (inl o) = let z : f % 2 ≡ 0 = omega arith in rw (z, o, h) (sym (not-not _))
    by_cases (inr o) = let z : f % 2 ≡ 1 = omega arith in let y : w % 2 ≡ 0 = omega arith in rw (z, y, h)

pub wire_value-flip : (n : Netlist) (env : ℕ → Bool) (w : Wire) → wire_value n env (record { 0 = bit_xor w.0 1 }) ≡ not (wire_value n env w)
unfolding wire_value
wire_value-flip n env w = literal_value-flip _ w.0 _ (xor_one w.0)

-- a literal that is no greater
pub IsWire-less : (n : Netlist) (w v : Wire) → v.0 ≤ w.0 → IsWire n w → IsWire n v
unfolding IsWire
IsWire-less n w v o h = omega arith

-- an input
pub IsWire-input : (n : Netlist) (k : ℕ) → k < n.inputs → IsWire n (record { 0 = 2 * (k + 1) })
unfolding IsWire
IsWire-input n k h = omega arith

pub get_or-fold : (gs : List Gate) (xs : List Bool) (i : ℕ) → i < length xs → get_or (fold with_gate xs gs) i false ≡ get_or xs i false
get_or-fold [] xs i l = refl
get_or-fold (g ∷ gs) xs i l = get_or-fold gs (with_gate xs g) i (let p = length-append xs ((literal_value xs g.left.0 && literal_value xs g.right.0) ∷ []) in omega arith) ∙ get_or_append_left xs _ false i l

pub wire_value-input : (n : Netlist) (k : ℕ) (env : ℕ → Bool) → k < n.inputs → wire_value n env (record { 0 = 2 * (k + 1) }) ≡ env k
unfolding wire_value variable_values
wire_value-input n k env h =
    let l = length-map-range_with_len env 0 n.inputs in
    literal_value-even _ (k + 1) ∙ get_or-fold n.gates (input_values n.inputs env) (k + 1) (omega arith) ∙ rw add-one (get_or-map-range_with_len env 0 n.inputs k k false h (omega arith))

-- the folds of `and`
pub and-zero_left : (n : Netlist) (env : ℕ → Bool) (a b : Wire) → a.0 ≡ 0 → wire_value n env (record { 0 = 0 }) ≡ (wire_value n env a && wire_value n env b)
unfolding wire_value
and-zero_left n env a b e = rw (e, literal_value-false) refl

pub and-zero_right : (n : Netlist) (env : ℕ → Bool) (a b : Wire) → b.0 ≡ 0 → wire_value n env (record { 0 = 0 }) ≡ (wire_value n env a && wire_value n env b)
unfolding wire_value
and-zero_right n env a b e = rw (e, literal_value-false) (sym (and-false _))

pub and-flip : (n : Netlist) (env : ℕ → Bool) (a b : Wire) → a.0 ≡ bit_xor b.0 1 → wire_value n env (record { 0 = 0 }) ≡ (wire_value n env a && wire_value n env b)
unfolding wire_value
and-flip n env a b e = rw (e, literal_value-false) (sym (ap (λ x. x && literal_value (variable_values n env) b.0) (literal_value-flip _ b.0 _ (xor_one b.0)) ∙ not-and_self (literal_value (variable_values n env) b.0)))

pub and-one_left : (n : Netlist) (env : ℕ → Bool) (a b : Wire) → a.0 ≡ 1 → wire_value n env b ≡ (wire_value n env a && wire_value n env b)
unfolding wire_value
and-one_left n env a b e = rw (e, literal_value-false) refl

pub and-one_right : (n : Netlist) (env : ℕ → Bool) (a b : Wire) → b.0 ≡ 1 → wire_value n env a ≡ (wire_value n env a && wire_value n env b)
unfolding wire_value
and-one_right n env a b e = rw (e, literal_value-false) (sym (and-true _))

pub and-same : (n : Netlist) (env : ℕ → Bool) (a b : Wire) → a.0 ≡ b.0 → wire_value n env b ≡ (wire_value n env a && wire_value n env b)
unfolding wire_value
and-same n env a b e = rw e (sym (and_self _))

-- a gate may be pushed that names what is there
pub IsNetlist-push : (n : Netlist) (left right : Wire) → IsNetlist n.inputs n.gates → 2 ≤ right.0 → right.0 ≤ left.0 → IsWire n left → IsNetlist n.inputs (n.gates ++ record { left = left; right = right } ∷ [])
unfolding IsWire
IsNetlist-push n left right h low order w = λ k d l. by_cases k d l (cases_lt k (length n.gates))
  where
    g : Gate
    g = record { left = left; right = right }

    by_cases : (k : ℕ) (d : Gate) → k < length (n.gates ++ g ∷ []) → ((k < length n.gates) ⊎ (length n.gates ≤ k)) → IsGateAt n.inputs k (get_or (n.gates ++ g ∷ []) k d)
    by_cases k d l (inl below) = rw (get_or_append_left n.gates (g ∷ []) d k below) (h k d below)
    by_cases k d l (inr above) =
        let p = length-append n.gates (g ∷ []) in
        let e : length n.gates ≡ k = omega arith in
        rw (get_or_push n.gates g d k e) ((omega arith, omega arith), (low, omega arith))

pub AreOrdered-push : (gates : List Gate) (left right : Wire) → AreOrdered gates → right.0 ≤ left.0 → AreOrdered (gates ++ record { left = left; right = right } ∷ [])
AreOrdered-push gates left right h order = All-push (λ g. g.right.0 ≤ g.left.0) gates (record { left = left; right = right }) h order

pub AreWires-extends : (old new : Netlist) (ws : List Wire) → Extends old new → AreWires old ws → AreWires new ws
AreWires-extends old new ws e = All-weaker (IsWire old) (IsWire new) e.wires ws

pub wire_values-extends : (old new : Netlist) (ws : List Wire) (env : ℕ → Bool) → Extends old new → AreWires old ws → wire_values new env ws ≡ wire_values old env ws
wire_values-extends old new [] env e h = refl
wire_values-extends old new (w ∷ ws) env e h =
    let head : wire_value new env w ≡ wire_value old env w = e.values env w (All-head (IsWire old) w ws h) in
    let rest : wire_values new env ws ≡ wire_values old env ws = wire_values-extends old new ws env e (All-tail (IsWire old) w ws h) in
    cc

-- the evaluator
pub input_values-given : (bits : List Bool) (n : ℕ) → length bits ≡ n → false ∷ bits ≡ input_values n (given bits)
input_values-given bits n e = ap (λ xs. false ∷ xs) (same_lists bits (map (given bits) (range_with_len 0 n)) (e ∙ sym (length-map-range_with_len (given bits) 0 n)) (λ k d h. get_or_default bits k d false h ∙ sym (get_or-map-range_with_len (given bits) 0 n k k d (omega arith) (omega arith))))

pub length-values_upto : (n : Netlist) (env : ℕ → Bool) (k : ℕ) → k ≤ length n.gates → length (fold with_gate (input_values n.inputs env) (take k n.gates)) ≡ 1 + n.inputs + k
length-values_upto n env k h =
    let a = length-fold (input_values n.inputs env) (take k n.gates) in
    let b = length-map-range_with_len env 0 n.inputs in
    let t = length-take-le k n.gates h in
    omega arith

pub values-all : (n : Netlist) (env : ℕ → Bool) (k : ℕ) → length n.gates ≤ k → fold with_gate (input_values n.inputs env) (take k n.gates) ≡ variable_values n env
unfolding variable_values
values-all n env k h = rw (take_all k n.gates h)

pub wire_in_values : (n : Netlist) (env : ℕ → Bool) (w : Wire) → IsWire n w → w.0 < 2 * length (variable_values n env)
unfolding IsWire
wire_in_values n env w h = let l = length-variable_values n env in omega arith

pub wire_value-read : (n : Netlist) (env : ℕ → Bool) (w : Wire) → literal_value (variable_values n env) w.0 ≡ wire_value n env w
unfolding wire_value
wire_value-read n env w = refl

pub gate_in_values : (n : Netlist) (env : ℕ → Bool) (k : ℕ) (d : Gate) → IsNetlist n.inputs n.gates → k < length n.gates → ((get_or n.gates k d).left.0 < 2 * length (fold with_gate (input_values n.inputs env) (take k n.gates))) × ((get_or n.gates k d).right.0 < 2 * length (fold with_gate (input_values n.inputs env) (take k n.gates)))
gate_in_values n env k d h l =
    let here = h k d l in
    let left = here.0.1 in
    let right = here.1.1 in
    let v = length-values_upto n env k (omega arith) in
    (omega arith, omega arith)
