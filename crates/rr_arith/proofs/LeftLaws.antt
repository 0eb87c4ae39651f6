-- a shift to the left is one to the right of the word turned round
use Rattle.std.proofs.Common.{◌≡◌, ◌⊎◌, inl, inr, ℕ, ◌+◌, ◌-◌, ◌<◌, ◌≤◌, nat_lt, Bool, false, cond, List, length, get_or, reverse, refl, sym, ◌∙◌, ap, arith}
use Rattle.std.proofs.lemmas.Bool.{cases_lt, lt-ltb, le-ltb}
use Rattle.std.proofs.lemmas.List.{length-map, get_or-map, get_or_past, get_or-reverse, length-reverse, same_lists}
use Rattle.rr_circuit.specs.declared.Wire.{Wire}
use Rattle.rr_circuit.specs.Values.{Netlist, wire_value, AreWires, wire_values}
use Rattle.rr_bits.specs.Words.{number, shl}
use Rattle.rr_bits.proofs.Places.{length_tabulate, get_tabulate}
use Rattle.rr_arith.specs.Shifts.{shift_filled}

pub AreWires-reverse : (n : Netlist) (ws : List Wire) → AreWires n ws → AreWires n (reverse ws)
AreWires-reverse n ws h k d l = let m = length-reverse ws in rw (get_or-reverse ws k d (omega arith)) (h (length ws - 1 - k) d (omega arith))

values-reverse : (n : Netlist) (env : ℕ → Bool) (ws : List Wire) → wire_values n env (reverse ws) ≡ reverse (wire_values n env ws)
values-reverse n env ws = same_lists _ _ (length-map (reverse ws) (wire_value n env) ∙ length-reverse ws ∙ sym (length-reverse (wire_values n env ws) ∙ length-map ws (wire_value n env))) by_places
  where
    by_places : (k : ℕ) (d : Bool) → k < length (wire_values n env (reverse ws)) → get_or (wire_values n env (reverse ws)) k d ≡ get_or (reverse (wire_values n env ws)) k d
    by_places k d l =
        let a = length-map (reverse ws) (wire_value n env) in
        let c = length-reverse ws in
        let e = length-map ws (wire_value n env) in
        let z : Wire = record { 0 = 0 } in
        get_or-map (wire_value n env) (reverse ws) k z d (omega arith)
        ∙ ap (wire_value n env) (get_or-reverse ws k z (omega arith))
        ∙ sym (get_or-reverse (wire_values n env ws) k d (omega arith) ∙ rw e (get_or-map (wire_value n env) ws (length ws - 1 - k) z d (omega arith)))

left_is : (vs : List Bool) (k : ℕ) → reverse (shift_filled (reverse vs) k false) ≡ shl vs k
left_is vs k = same_lists _ _ (length-reverse turned ∙ width ∙ sym (length_tabulate (length vs) (λ i. cond (nat_lt i k) false (get_or vs (i - k) false)))) by_places
  where
    turned : List Bool
    turned = shift_filled (reverse vs) k false

    width : length turned ≡ length vs
    width = length_tabulate (length (reverse vs)) (λ i. get_or (reverse vs) (i + k) false) ∙ length-reverse vs

    by_cases : (i : ℕ) → i < length vs → ((i < k) ⊎ (k ≤ i)) → get_or (reverse vs) (length vs - 1 - i + k) false ≡ cond (nat_lt i k) false (get_or vs (i - k) false)
    by_cases i l (inl p) = rw (lt-ltb i k p) (get_or_past (reverse vs) (length vs - 1 - i + k) false (let c = length-reverse vs in omega arith))
    by_cases i l (inr p) =
        let e : length vs - 1 - (length vs - 1 - i + k) ≡ i - k = omega arith in
        rw (le-ltb i k p) (get_or-reverse vs (length vs - 1 - i + k) false (omega arith) ∙ rw e refl)

    by_places : (i : ℕ) (d : Bool) → i < length (reverse turned) → get_or (reverse turned) i d ≡ get_or (shl vs k) i d
    by_places i d l =
        let a : length (reverse turned) ≡ length turned = length-reverse turned in
        let w = width in
        let c = length-reverse vs in
        let m : i < length vs = omega arith in
        get_or-reverse turned i d (omega arith)
        ∙ ap (λ n. get_or turned (n - 1 - i) d) w
        ∙ get_tabulate (length (reverse vs)) (length vs - 1 - i) (λ j. get_or (reverse vs) (j + k) false) d (omega arith)
        ∙ by_cases i m (cases_lt i k)
        ∙ sym (get_tabulate (length vs) i (λ j. cond (nat_lt j k) false (get_or vs (j - k) false)) d m)

pub Left-all : (start now : Netlist) (xs by turned moved slice out : List Wire) (fill : Wire) → turned ≡ reverse xs → slice ≡ moved → out ≡ reverse slice → ((env : ℕ → Bool) → wire_value start env fill ≡ false)
    → ((env : ℕ → Bool) → wire_values now env moved ≡ shift_filled (wire_values start env turned) (number (wire_values start env by)) (wire_value start env fill))
    → (env : ℕ → Bool) → wire_values now env out ≡ shl (wire_values start env xs) (number (wire_values start env by))
Left-all start now xs by turned moved slice out fill a s o f v env =
    let here = rw (a, values-reverse start env xs, f env) at (v env) in
    ap (wire_values now env) (o ∙ ap reverse s) ∙ values-reverse now env moved ∙ ap reverse here ∙ left_is (wire_values start env xs) (number (wire_values start env by))
