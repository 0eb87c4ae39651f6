-- the turns of lists of wires
use Rattle.std.proofs.Common.{◌≡◌, ℕ, ◌+◌, ◌<◌, ◌≤◌, Bool, false, List, [], ◌∷◌, ◌++◌, length, get_or, take, drop, map, sym, ◌∙◌, ap, ap₂, arith, append_assoc, append-nil, length-append}
use Rattle.std.specs.List.{range_with_len}
use Rattle.std.proofs.lemmas.List.{take_more, take_all, map_push, map_more, map-append, length-map, get_or-map}
use Rattle.std.proofs.lemmas.List.FromFn.{map-range_with_len_more}
use Rattle.rr_circuit.specs.declared.Wire.{Wire}
use Rattle.rr_circuit.specs.Values.{Netlist, wire_value, wire_values, given}
use Rattle.rr_circuit.proofs.Netlists.{input_values-given}
use Rattle.rr_transition.specs.Transitions.{switched}

module _ (n : Netlist) (env : ℕ → Bool) where
  pub inputs_more : (out : List Wire) (w : Wire) (k : ℕ) → wire_values n env out ≡ map env (range_with_len 0 k) → wire_value n env w ≡ env k → wire_values n env (out ++ w ∷ []) ≡ map env (range_with_len 0 (k + 1))
  inputs_more out w k h v = map_push (wire_value n env) out w ∙ ap₂ (λ xs x. xs ++ x ∷ []) h v ∙ sym (map-range_with_len_more env 0 k k (omega arith))

  pub switched_more : (out choice : List Wire) (places : List ℕ) (i : ℕ) (d : Wire) → i < length places → get_or places i 0 < length choice → wire_values n env out ≡ switched (take i places) (wire_values n env choice) →
      wire_values n env (out ++ get_or choice (get_or places i 0) d ∷ []) ≡ switched (take (i + 1) places) (wire_values n env choice)
  switched_more out choice places i d l r h =
      map_push (wire_value n env) out (get_or choice (get_or places i 0) d)
      ∙ ap₂ (λ xs x. xs ++ x ∷ []) h (sym (get_or-map (wire_value n env) choice (get_or places i 0) d false r))
      ∙ sym (map_more (λ k. get_or (wire_values n env choice) k false) places i 0 l)

  module _ (wires : List Wire) where
    pub followed_first : (bits : List Bool) → wire_values n env wires ≡ wire_values n env wires ++ take 0 bits
    followed_first bits = sym (append-nil (wire_values n env wires))

    pub followed_more : (all : List Wire) (w : Wire) (bits : List Bool) (i : ℕ) → i < length bits → wire_values n env all ≡ wire_values n env wires ++ take i bits → wire_value n env w ≡ get_or bits i false →
        wire_values n env (all ++ w ∷ []) ≡ wire_values n env wires ++ take (i + 1) bits
    followed_more all w bits i l h v =
        map_push (wire_value n env) all w ∙ ap₂ (λ xs x. xs ++ x ∷ []) h v
        ∙ append_assoc (wire_values n env wires) (take i bits) (get_or bits i false ∷ [])
        ∙ ap (λ xs. wire_values n env wires ++ xs) (sym (take_more bits i false l))

    pub followed_all : (all : List Wire) (bits : List Bool) (i : ℕ) → length bits ≤ i → wire_values n env all ≡ wire_values n env wires ++ take i bits → wire_values n env all ≡ wire_values n env wires ++ bits
    followed_all all bits i l h = h ∙ ap (λ bs. wire_values n env wires ++ bs) (take_all i bits l)

pub followed_width : (n : Netlist) (wires all : List Wire) (bits : List Bool) → ((env : ℕ → Bool) → wire_values n env all ≡ wire_values n env wires ++ bits) → length all ≡ length wires + length bits
followed_width n wires all bits h =
    let env : ℕ → Bool = λ k. false in
    sym (length-map all (wire_value n env)) ∙ ap length (h env) ∙ length-append (wire_values n env wires) bits ∙ ap (λ x. x + length bits) (length-map wires (wire_value n env))

-- two lists of wires, one behind the other
pub both_values : (n : Netlist) (env : ℕ → Bool) (all choice state : List Wire) → all ≡ choice ++ state → wire_values n env all ≡ wire_values n env choice ++ wire_values n env state
both_values n env all choice state e = ap (wire_values n env) e ∙ map-append (wire_value n env) choice state

-- as many wires as values
pub wires_width : (n : Netlist) (ws : List Wire) (values : (ℕ → Bool) → List Bool) (k : ℕ) → ((env : ℕ → Bool) → wire_values n env ws ≡ values env) → length (values (λ i. false)) ≡ k → length ws ≡ k
wires_width n ws values k h e = sym (length-map ws (wire_value n (λ i. false))) ∙ ap length (h (λ i. false)) ∙ e

-- the inputs that a list gives are the list
pub given_back : (bits : List Bool) (n : ℕ) → length bits ≡ n → map (given bits) (range_with_len 0 n) ≡ bits
given_back bits n e = sym (ap (drop 1) (input_values-given bits n e))
