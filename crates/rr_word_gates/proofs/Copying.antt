-- copies of words
use Rattle.std.proofs.Common.{◌≡◌, ℕ, zero, suc, ◌+◌, ◌*◌, Bool, List, [], ◌++◌, length, refl, sym, ◌∙◌, ap, append_assoc, subst, arith, length-append}
use Rattle.std.proofs.lemmas.List.{append-nil, map-append}
use Rattle.std.proofs.lemmas.List.Elements.{All-append, All-nil}
use Rattle.rr_circuit.specs.declared.Wire.{Wire}
use Rattle.rr_circuit.specs.Values.{Netlist, AreWires, IsWire, wire_value, wire_values}
use Rattle.rr_expr.specs.Selects.{repeated}
use Rattle.rr_word_gates.specs.Carried.{Carries}

-- n copies, one after the other
unfoldable pub copied : {A : Type 0} → ℕ → List A → List A
copied zero xs = []
copied (suc n) xs = xs ++ copied n xs

pub copied_none : {A : Type 0} (xs : List A) → [] ≡ copied 0 xs
unfolding copied
copied_none xs = refl

turned : {A : Type 0} (n : ℕ) (xs : List A) → copied n xs ++ xs ≡ xs ++ copied n xs
unfolding copied
turned zero xs = sym (append-nil xs)
turned (suc n) xs = append_assoc xs (copied n xs) xs ∙ ap (λ ys. xs ++ ys) (turned n xs)

pub copied_next : {A : Type 0} (n : ℕ) (xs ys zs : List A) → ys ≡ copied n xs → zs ≡ ys ++ xs → zs ≡ copied (n + 1) xs
unfolding copied
copied_next n xs ys zs e f = let k : n + 1 ≡ suc n = omega arith in rw k (f ∙ ap (λ us. us ++ xs) e ∙ turned n xs)

pub length_copied : {A : Type 0} (n : ℕ) (xs : List A) → length (copied n xs) ≡ n * length xs
unfolding copied
length_copied zero xs = omega arith
length_copied (suc n) xs = let r = length_copied n xs in length-append xs (copied n xs) ∙ omega (arith, r)

pub values_copied : (m : Netlist) (input : ℕ → Bool) (n : ℕ) (ws : List Wire) → wire_values m input (copied n ws) ≡ repeated n (wire_values m input ws)
unfolding copied repeated
values_copied m input zero ws = refl
values_copied m input (suc n) ws = map-append (wire_value m input) ws (copied n ws) ∙ ap (λ xs. wire_values m input ws ++ xs) (values_copied m input n ws)

pub copied_wires : (m : Netlist) (n : ℕ) (ws : List Wire) → AreWires m ws → AreWires m (copied n ws)
unfolding copied
copied_wires m zero ws h = All-nil (IsWire m)
copied_wires m (suc n) ws h = All-append (IsWire m) ws (copied n ws) h (copied_wires m n ws h)

pub copied_carries : (n : Netlist) (copies : ℕ) (word out : List Wire) → out ≡ copied copies word → AreWires n word → Carries n out (λ input. repeated copies (wire_values n input word))
copied_carries n copies word out e h = record {
  wires = subst (AreWires n) (sym e) (copied_wires n copies word h);
  value = λ input. ap (wire_values n input) e ∙ values_copied n input copies word;
}
