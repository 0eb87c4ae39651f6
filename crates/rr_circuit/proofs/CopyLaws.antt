-- the turns of a copy
use Rattle.std.proofs.Common.{◌≡◌, ℕ, ◌+◌, ◌*◌, ◌<◌, ◌≤◌, Bool, false, ◌&&◌, List, [], ◌∷◌, ◌++◌, length, get_or, take, sym, ◌∙◌, ap, ap₂, arith}
use Rattle.std.specs.Prelude.{fold}
use Rattle.std.proofs.lemmas.List.{take_more, map_push, map_more, length-map}
use Rattle.std.proofs.lemmas.List.Sums.{fold_push}
use Rattle.std.proofs.lemmas.List.Elements.{All-push, All-cons}
use Rattle.rr_circuit.specs.declared.Wire.{Wire}
use Rattle.rr_circuit.specs.declared.Gate.{Gate}
use Rattle.rr_circuit.specs.Values.{Netlist, Extends, IsWire, AreWires, wire_value, wire_values, literal_value, with_gate, input_values, variable_values, given, IsNetlist}
use Rattle.rr_circuit.proofs.Netlists.{AreWires-extends, wire_values-extends, Extends-trans, Extends-refl, input_values-given, length-values_upto, wire_in_values, wire_value-read}
use Rattle.rr_circuit.proofs.Copies.{Copied}

pub Copied-none : (start : Netlist) (inputs copies : List Wire) (zero_wire : Wire) (circuit : Netlist) → AreWires start inputs → IsWire start zero_wire → ((env : ℕ → Bool) → wire_value start env zero_wire ≡ false) → length inputs ≡ circuit.inputs → copies ≡ zero_wire ∷ inputs → Copied start start inputs circuit copies 0
Copied-none start inputs copies w circuit h iw v l e = record {
  extends = Extends-refl start;
  wires = rw e (All-cons (IsWire start) w inputs iw h);
  value = λ env. rw (e, v env) (input_values-given (wire_values start env inputs) circuit.inputs (length-map inputs (wire_value start env) ∙ l));
}

pub copied_length : (start now : Netlist) (inputs copies : List Wire) (circuit : Netlist) (i : ℕ) → Copied start now inputs circuit copies i → i ≤ length circuit.gates → length copies ≡ 1 + circuit.inputs + i
copied_length start now inputs copies circuit i h l =
    sym (length-map copies (wire_value now (λ k. false))) ∙ ap length (h.value (λ k. false)) ∙ length-values_upto circuit (given (wire_values start (λ k. false) inputs)) i l

pub Copied-more : (start now next : Netlist) (inputs copies : List Wire) (circuit : Netlist) (i : ℕ) (left right out : Wire) (d : Gate) → Copied start now inputs circuit copies i → i < length circuit.gates → Extends now next → IsWire next out →
    ((env : ℕ → Bool) → wire_value now env left ≡ literal_value (wire_values now env copies) (get_or circuit.gates i d).left.0) →
    ((env : ℕ → Bool) → wire_value now env right ≡ literal_value (wire_values now env copies) (get_or circuit.gates i d).right.0) →
    ((env : ℕ → Bool) → wire_value next env out ≡ (wire_value now env left && wire_value now env right)) →
    Copied start next inputs circuit (copies ++ out ∷ []) (i + 1)
Copied-more start now next inputs copies circuit i left right out d h l e io vl vr v = record {
  extends = Extends-trans start now next h.extends e;
  wires = All-push (IsWire next) copies out (AreWires-extends now next copies e h.wires) io;
  value = λ env.
      let start_values : List Bool = input_values circuit.inputs (given (wire_values start env inputs)) in
      let g : Gate = get_or circuit.gates i d in
      let before : List Bool = fold with_gate start_values (take i circuit.gates) in
      let same = h.value env in
      map_push (wire_value next env) copies out
      ∙ ap₂ (λ xs x. xs ++ x ∷ []) (wire_values-extends now next copies env e h.wires ∙ same)
      (v env ∙ ap₂ (λ x y. x && y) (vl env ∙ ap (λ xs. literal_value xs g.left.0) same) (vr env ∙ ap (λ xs. literal_value xs g.right.0) same))
      ∙ sym (ap (fold with_gate start_values) (take_more circuit.gates i d l) ∙ fold_push with_gate start_values (take i circuit.gates) g);
}

pub copied_room : (start now : Netlist) (inputs copies : List Wire) (circuit : Netlist) (i : ℕ) (d : Gate) → Copied start now inputs circuit copies i → IsNetlist circuit.inputs circuit.gates → i < length circuit.gates → ((get_or circuit.gates i d).left.0 < 2 * length copies) × ((get_or circuit.gates i d).right.0 < 2 * length copies)
copied_room start now inputs copies circuit i d h lawful l =
    let k = copied_length start now inputs copies circuit i h (omega arith) in
    let g = lawful i d l in
    (omega (arith, k, g), omega (arith, k, g))

pub output_room : (n : Netlist) (copies : List Wire) (circuit : Netlist) (want : (ℕ → Bool) → (ℕ → Bool)) (w : Wire) → ((env : ℕ → Bool) → wire_values n env copies ≡ variable_values circuit (want env)) → IsWire circuit w → w.0 < 2 * length copies
output_room n copies circuit want w h iw =
    let l = sym (length-map copies (wire_value n (λ k. false))) ∙ ap length (h (λ k. false)) in
    let r = wire_in_values circuit (want (λ k. false)) w iw in
    omega (arith, l, r)

pub output_more : (n : Netlist) (env : ℕ → Bool) (copies outs ws : List Wire) (circuit : Netlist) (inputs : ℕ → Bool) (out d : Wire) (i : ℕ) → i < length ws → wire_values n env copies ≡ variable_values circuit inputs →
    wire_values n env outs ≡ wire_values circuit inputs (take i ws) → wire_value n env out ≡ literal_value (wire_values n env copies) (get_or ws i d).0 →
    wire_values n env (outs ++ out ∷ []) ≡ wire_values circuit inputs (take (i + 1) ws)
output_more n env copies outs ws circuit inputs out d i l same old v =
    map_push (wire_value n env) outs out
    ∙ ap₂ (λ xs x. xs ++ x ∷ []) old (v ∙ ap (λ xs. literal_value xs (get_or ws i d).0) same ∙ wire_value-read circuit inputs (get_or ws i d))
    ∙ sym (map_more (wire_value circuit inputs) ws i d l)
