-- wires that carry words, while their circuit grows
use Rattle.std.proofs.Common.{◌≡◌, ℕ, ◌+◌, ◌<◌, Bool, false, List, [], ◌∷◌, ◌++◌, if◌then◌else◌, length, get_or, refl, sym, ◌∙◌, ap, ap₂}
use Rattle.std.specs.Prelude.{Vec}
use Rattle.std.specs.Global.{Global}
use Rattle.std.proofs.lemmas.List.{get_or-map}
use Rattle.std.proofs.lemmas.List.FromFn.{fill_by_all}
use Rattle.std.proofs.lemmas.List.Elements.{All-head, All-tail}
use Rattle.rr_circuit.specs.declared.Wire.{Wire}
use Rattle.rr_circuit.specs.Values.{Netlist, wire_value, Extends, AreWires, wire_values}
use Rattle.rr_circuit.proofs.Netlists.{AreWires-extends, wire_values-extends}
use Rattle.rr_bits.specs.Words.{tabulate}
use Rattle.rr_arith.proofs.Ripple.{width-values}
use Rattle.rr_arith.proofs.ShiftLaws.{Filled, Filled-more}
use Rattle.rr_word_gates.specs.Carried.{Carries, CarriesBit}

pub Carries-same : (n : Netlist) (ws : List Wire) (f g : (ℕ → Bool) → List Bool) → Carries n ws f → ((input : ℕ → Bool) → f input ≡ g input) → Carries n ws g
Carries-same n ws f g h e = record { wires = h.wires; value = λ input. h.value input ∙ e input }

pub CarriesBit-same : (n : Netlist) (w : Wire) (f g : (ℕ → Bool) → Bool) → CarriesBit n w f → ((input : ℕ → Bool) → f input ≡ g input) → CarriesBit n w g
CarriesBit-same n w f g h e = record { wire = h.wire; value = λ input. h.value input ∙ e input }

pub Carries-extends : (old new : Netlist) (ws : List Wire) (f : (ℕ → Bool) → List Bool) → Extends old new → Carries old ws f → Carries new ws f
Carries-extends old new ws f e h = record { wires = AreWires-extends old new ws e h.wires; value = λ input. wire_values-extends old new ws input e h.wires ∙ h.value input }

pub CarriesBit-extends : (old new : Netlist) (w : Wire) (f : (ℕ → Bool) → Bool) → Extends old new → CarriesBit old w f → CarriesBit new w f
CarriesBit-extends old new w f e h = record { wire = e.wires w h.wire; value = λ input. e.values input w h.wire ∙ h.value input }

-- a list of wires under another name
pub Carries-at : (n : Netlist) (ws us : List Wire) (f : (ℕ → Bool) → List Bool) → us ≡ ws → Carries n ws f → Carries n us f
Carries-at n ws us f e h = rw e h

pub width-carried : (n : Netlist) (ws : List Wire) (f : (ℕ → Bool) → List Bool) (input : ℕ → Bool) → Carries n ws f → length ws ≡ length (f input)
width-carried n ws f input h = sym (width-values n input ws) ∙ ap length (h.value input)

-- the value of a wire in a list
pub value-read : (n : Netlist) (input : ℕ → Bool) (xs : List Wire) (k : ℕ) (d : Wire) → k < length xs → wire_value n input (get_or xs k d) ≡ get_or (wire_values n input xs) k false
value-read n input xs k d l = sym (get_or-map (wire_value n input) xs k d false l)

-- lists built wire by wire

pub tabulated : (xs : List Bool) (d : Bool) → tabulate (length xs) (λ i. get_or xs i d) ≡ xs
unfolding tabulate
tabulated xs d = sym (fill_by_all (λ i. get_or xs i d) xs (length xs) d refl (λ i l. refl))

pub Filled-bit : (start now next : Netlist) (f : (ℕ → Bool) → ℕ → Bool) (out : List Wire) (w : Wire) (i : ℕ) → Filled start now f out i → Extends now next → CarriesBit next w (λ input. f input i) → Filled start next f (out ++ w ∷ []) (i + 1)
Filled-bit start now next f out w i h e c = Filled-more start now next f out w i h e c.wire c.value

pub Filled-carries : (start now : Netlist) (f : (ℕ → Bool) → ℕ → Bool) (out : List Wire) (i n : ℕ) → Filled start now f out i → i ≡ n → Carries now out (λ input. tabulate n (f input))
Filled-carries start now f out i n h e = record { wires = h.wires; value = λ input. h.value input ∙ ap (λ k. tabulate k (f input)) e }

-- operations on words under other names

pub carried1 : (op : List Bool → List Bool) (n m : Netlist) (ws us out : List Wire) (f : (ℕ → Bool) → List Bool) → us ≡ ws → Carries n ws f → Carries m out (λ input. op (wire_values n input us)) → Carries m out (λ input. op (f input))
carried1 op n m ws us out f e h o = record { wires = o.wires; value = λ input. o.value input ∙ ap (λ vs. op (wire_values n input vs)) e ∙ ap op (h.value input) }

pub carried2 : (op : List Bool → List Bool → List Bool) (n m : Netlist) (ws us xs vs out : List Wire) (f g : (ℕ → Bool) → List Bool) → us ≡ ws → vs ≡ xs → Carries n ws f → Carries n xs g → Carries m out (λ input. op (wire_values n input us) (wire_values n input vs)) → Carries m out (λ input. op (f input) (g input))
carried2 op n m ws us xs vs out f g e k h l o = record { wires = o.wires; value = λ input. o.value input ∙ ap₂ (λ ps qs. op (wire_values n input ps) (wire_values n input qs)) e k ∙ ap₂ op (h.value input) (l.value input) }

pub carried_bit1 : (op : List Bool → Bool) (n m : Netlist) (ws us : List Wire) (w : Wire) (f : (ℕ → Bool) → List Bool) → us ≡ ws → Carries n ws f → CarriesBit m w (λ input. op (wire_values n input us)) → CarriesBit m w (λ input. op (f input))
carried_bit1 op n m ws us w f e h o = record { wire = o.wire; value = λ input. o.value input ∙ ap (λ vs. op (wire_values n input vs)) e ∙ ap op (h.value input) }

pub carried_bit2 : (op : List Bool → List Bool → Bool) (n m : Netlist) (ws us xs vs : List Wire) (w : Wire) (f g : (ℕ → Bool) → List Bool) → us ≡ ws → vs ≡ xs → Carries n ws f → Carries n xs g → CarriesBit m w (λ input. op (wire_values n input us) (wire_values n input vs)) → CarriesBit m w (λ input. op (f input) (g input))
carried_bit2 op n m ws us xs vs w f g e k h l o = record { wire = o.wire; value = λ input. o.value input ∙ ap₂ (λ ps qs. op (wire_values n input ps) (wire_values n input qs)) e k ∙ ap₂ op (h.value input) (l.value input) }

pub carried_bits : (op : Bool → Bool → Bool) (n m : Netlist) (x y w : Wire) (f g : (ℕ → Bool) → Bool) → CarriesBit n x f → CarriesBit n y g → CarriesBit m w (λ input. op (wire_value n input x) (wire_value n input y)) → CarriesBit m w (λ input. op (f input) (g input))
carried_bits op n m x y w f g h l o = record { wire = o.wire; value = λ input. o.value input ∙ ap₂ op (h.value input) (l.value input) }

pub carried_word : (op : Bool → List Bool) (n m : Netlist) (x : Wire) (out : List Wire) (f : (ℕ → Bool) → Bool) → CarriesBit n x f → Carries m out (λ input. op (wire_value n input x)) → Carries m out (λ input. op (f input))
carried_word op n m x out f h o = record { wires = o.wires; value = λ input. o.value input ∙ ap op (h.value input) }

pub carried_choice : (n m : Netlist) (t : Wire) (ws us xs vs out : List Wire) (b : (ℕ → Bool) → Bool) (f g : (ℕ → Bool) → List Bool) → us ≡ ws → vs ≡ xs → CarriesBit n t b → Carries n ws f → Carries n xs g
    → Carries m out (λ input. (if (wire_value n input t) then (wire_values n input us) else (wire_values n input vs))) → Carries m out (λ input. (if (b input) then (f input) else (g input)))
carried_choice n m t ws us xs vs out b f g e k c h l o = record {
  wires = o.wires;
  value = λ input. o.value input
      ∙ ap (λ z. if z then (wire_values n input us) else (wire_values n input vs)) (c.value input)
      ∙ ap₂ (λ ps qs. if (b input) then ps else qs) (ap (wire_values n input) e ∙ h.value input) (ap (wire_values n input) k ∙ l.value input);
}
