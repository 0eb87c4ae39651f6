-- words of wires made bit by bit
use Rattle.std.proofs.Common.{◌≡◌, ℕ, ◌+◌, ◌-◌, ◌*◌, ◌^◌, ◌<◌, ◌≤◌, ◌⊎◌, inl, inr, ◌==◌, Bool, true, false, not, ◌&&◌, ◌||◌, if◌then◌else◌, List, [], ◌∷◌, ◌++◌, length, get_or, take, refl, sym, ◌∙◌, ap, ap₂, arith}
use Rattle.std.proofs.lemmas.List.{get_or-map, get_or_past, map_push, take_more, take_all}
use Rattle.std.proofs.lemmas.List.Elements.{All-get_or}
use Rattle.std.proofs.lemmas.Bool.{cases_lt, cases_eq, eq-eqb, ne_eqb}
use Rattle.rr_circuit.specs.declared.Wire.{Wire}
use Rattle.rr_circuit.specs.Values.{Netlist, xor, wire_value, IsWire, Extends, AreWires, wire_values}
use Rattle.rr_circuit.proofs.Netlists.{Extends-trans, Extends-refl}
use Rattle.rr_bits.specs.Words.{number, word, tabulate, top, inverted, negated, sub, is_zero}
use Rattle.std.proofs.lemmas.Nat.{pow_pos}
use Rattle.rr_bits.proofs.Numbers.{number_small}
use Rattle.rr_bits.proofs.Places.{word_tabulated, has_zero}
use Rattle.rr_expr.specs.Operators.{every, parity}
use Rattle.rr_arith.proofs.Ripple.{width-values}
use Rattle.rr_arith.proofs.ShiftLaws.{Filled, IsWire-read}
use Rattle.rr_word_gates.specs.declared.words.Connective.{Connective}
use Rattle.rr_word_gates.specs.declared.words.Connective.TheVariants.{And, Or, Xor}
use Rattle.rr_word_gates.specs.Carried.{Carries, CarriesBit}
use Rattle.rr_word_gates.specs.Gates.{connected, bitwise, of_all}
use Rattle.rr_word_gates.proofs.Carrying.{Carries-same, Filled-carries, value-read, tabulated}

-- constants

pub constant_bits : (n : Netlist) (out : List Wire) (bits : List Bool) (i : ℕ) → Filled n n (λ input k. get_or bits k false) out i → i ≡ length bits → Carries n out (λ input. bits)
constant_bits n out bits i h e = Carries-same n out (λ input. tabulate (length bits) (λ k. get_or bits k false)) (λ input. bits) (Filled-carries n n (λ input k. get_or bits k false) out i (length bits) h e) (λ input. tabulated bits false)

-- extension

read_or : (n : Netlist) (input : ℕ → Bool) (xs : List Wire) (k : ℕ) (fill : Wire) → wire_value n input (get_or xs k fill) ≡ get_or (wire_values n input xs) k (wire_value n input fill)
read_or n input xs k fill = by_cases (cases_lt k (length xs))
  where
    by_cases : ((k < length xs) ⊎ (length xs ≤ k)) → wire_value n input (get_or xs k fill) ≡ get_or (wire_values n input xs) k (wire_value n input fill)
    by_cases (inl p) = sym (get_or-map (wire_value n input) xs k fill (wire_value n input fill) p)
    by_cases (inr p) = rw (get_or_past xs k fill p) (sym (get_or_past (wire_values n input xs) k (wire_value n input fill) (let w = width-values n input xs in omega arith)))

pub top_read : (n : Netlist) (input : ℕ → Bool) (xs : List Wire) (k : ℕ) (d : Wire) (signed : Bool) → signed ≡ true → 0 < length xs → k ≡ length xs - 1 → wire_value n input (get_or xs k d) ≡ (signed && top (wire_values n input xs))
top_read n input xs k d signed s l e =
    let w = width-values n input xs in
    rw (s, e, w) (value-read n input xs (length xs - 1) d (omega arith))

pub top_none : (n : Netlist) (input : ℕ → Bool) (xs : List Wire) (signed b : Bool) → (signed && b) ≡ false → (b ≡ false → length xs ≡ 0) → false ≡ (signed && top (wire_values n input xs))
top_none n input xs false b e h = refl
top_none n input [] true b e h = refl
top_none n input (x ∷ xs) true true e h = cc
top_none n input (x ∷ xs) true false e h = absurd (let k : length (x ∷ xs) ≡ 0 = h refl in omega arith)

abbrev pub extended_bit : Netlist → List Wire → Bool → (ℕ → Bool) → ℕ → Bool
extended_bit n xs signed input i = get_or (wire_values n input xs) i (signed && top (wire_values n input xs))

pub extended_here : (n : Netlist) (xs : List Wire) (fill w : Wire) (signed : Bool) (i : ℕ) → AreWires n xs → CarriesBit n fill (λ input. signed && top (wire_values n input xs)) → w ≡ get_or xs i fill → CarriesBit n w (λ input. extended_bit n xs signed input i)
extended_here n xs fill w signed i h f e = record {
  wire = rw e (IsWire-read n xs i fill h f.wire);
  value = λ input. ap (wire_value n input) e ∙ read_or n input xs i fill ∙ ap (get_or (wire_values n input xs) i) (f.value input);
}

-- negation

abbrev pub inverted_bit : Netlist → List Wire → (ℕ → Bool) → ℕ → Bool
inverted_bit n xs input i = not (get_or (wire_values n input xs) i false)

pub inverted_here : (n : Netlist) (xs : List Wire) (w d : Wire) (i : ℕ) → i < length xs → IsWire n w → ((input : ℕ → Bool) → wire_value n input w ≡ not (wire_value n input (get_or xs i d))) → CarriesBit n w (λ input. inverted_bit n xs input i)
inverted_here n xs w d i l h v = record { wire = h; value = λ input. v input ∙ ap not (value-read n input xs i d l) }

pub inverted_all : (n : Netlist) (xs out : List Wire) (i : ℕ) → Filled n n (inverted_bit n xs) out i → i ≡ length xs → Carries n out (λ input. inverted (wire_values n input xs))
inverted_all n xs out i h e =
    Carries-same n out (λ input. tabulate (length xs) (inverted_bit n xs input)) (λ input. inverted (wire_values n input xs)) (Filled-carries n n (inverted_bit n xs) out i (length xs) h e)
    (λ input. ap (λ k. tabulate k (inverted_bit n xs input)) (sym (width-values n input xs)))

pub number_zeros : (k : ℕ) (xs : List Bool) → xs ≡ tabulate k (λ i. false) → number xs ≡ 0
number_zeros k xs e = ap number e ∙ ap number (sym (word_tabulated k 0 (λ i. false) (λ i l. has_zero i))) ∙ number_small k 0 (pow_pos k)

pub negated_all : (n m : Netlist) (zs xs out us : List Wire) (i : ℕ) → us ≡ zs → Filled n n (λ input k. false) zs i → i ≡ length xs → AreWires m out → ((input : ℕ → Bool) → wire_values m input out ≡ sub (wire_values n input us) (wire_values n input xs)) → Carries m out (λ input. negated (wire_values n input xs))
negated_all n m zs xs out us i u h e w v = record {
  wires = w;
  value = λ input.
      let l : length (wire_values n input us) ≡ length (wire_values n input xs) = ap (λ ws. length (wire_values n input ws)) u ∙ width-values n input zs ∙ h.width ∙ e ∙ sym (width-values n input xs) in
      let z : number (wire_values n input us) ≡ 0 = ap (λ ws. number (wire_values n input ws)) u ∙ number_zeros i (wire_values n input zs) (h.value input) in
      v input ∙ ap₂ (λ a k. word a (k + (2 ^ a - number (wire_values n input xs)))) l z ∙ ap (word (length (wire_values n input xs))) (omega arith);
}

-- bits joined

abbrev pub joined_bit : Netlist → Connective → List Wire → List Wire → (ℕ → Bool) → ℕ → Bool
joined_bit n op xs ys input i = connected op (get_or (wire_values n input xs) i false) (get_or (wire_values n input ys) i false)

pub joined_here : (start now next : Netlist) (op : Connective) (xs ys : List Wire) (w d e : Wire) (i : ℕ) → i < length xs → length xs ≡ length ys → AreWires start xs → AreWires start ys → Extends start now → CarriesBit next w (λ input. connected op (wire_value now input (get_or xs i d)) (wire_value now input (get_or ys i e))) → CarriesBit next w (λ input. joined_bit start op xs ys input i)
joined_here start now next op xs ys w d e i l k hx hy x c = record {
  wire = c.wire;
  value = λ input. c.value input ∙ ap₂ (connected op)
      (x.values input (get_or xs i d) (All-get_or (IsWire start) xs i d l hx) ∙ value-read start input xs i d l)
      (x.values input (get_or ys i e) (All-get_or (IsWire start) ys i e (omega arith) hy) ∙ value-read start input ys i e (omega arith));
}

pub joined_all : (start now : Netlist) (op : Connective) (xs ys out : List Wire) (i : ℕ) → Filled start now (joined_bit start op xs ys) out i → i ≡ length xs → Carries now out (λ input. bitwise op (wire_values start input xs) (wire_values start input ys))
joined_all start now op xs ys out i h e =
    Carries-same now out (λ input. tabulate (length xs) (joined_bit start op xs ys input)) (λ input. bitwise op (wire_values start input xs) (wire_values start input ys)) (Filled-carries start now (joined_bit start op xs ys) out i (length xs) h e)
    (λ input. ap (λ k. tabulate k (joined_bit start op xs ys input)) (sym (width-values start input xs)))

-- all bits

some_cons : (b : Bool) (bs : List Bool) → not (is_zero (b ∷ bs)) ≡ (b || not (is_zero bs))
unfolding number
some_cons true bs = ap not (ne_eqb (1 + 2 * number bs) 0 (λ q. omega arith))
some_cons false bs = by_cases (cases_eq (number bs) 0)
  where
    by_cases : ((number bs ≡ 0) ⊎ (number bs ≡ 0 → ⊥)) → not ((0 + 2 * number bs) == 0) ≡ not (number bs == 0)
    by_cases (inl e) = ap not (eq-eqb (0 + 2 * number bs) 0 (omega arith) ∙ sym (eq-eqb (number bs) 0 e))
    by_cases (inr e) = ap not (ne_eqb (0 + 2 * number bs) 0 (λ q. e (omega arith)) ∙ sym (ne_eqb (number bs) 0 e))

and_true : (b c : Bool) → ((b && true) && c) ≡ (b && c)
and_true true c = refl
and_true false c = refl

pub of_all-push : (op : Connective) (xs : List Bool) (b : Bool) → of_all op (xs ++ b ∷ []) ≡ connected op (of_all op xs) b
unfolding every parity number
of_all-push And [] true = refl
of_all-push And [] false = refl
of_all-push And (true ∷ xs) b = of_all-push And xs b
of_all-push And (false ∷ xs) b = refl
of_all-push Or [] true = refl
of_all-push Or [] false = refl
of_all-push Or (x ∷ xs) b = some_cons x (xs ++ b ∷ []) ∙ ap (λ y. x || y) (of_all-push Or xs b) ∙ or_or x (not (is_zero xs)) b ∙ ap (λ y. y || b) (sym (some_cons x xs))
  where
    or_or : (x y z : Bool) → (x || (y || z)) ≡ ((x || y) || z)
    or_or true y z = refl
    or_or false y z = refl
of_all-push Xor [] true = refl
of_all-push Xor [] false = refl
of_all-push Xor (true ∷ xs) b = ap not (of_all-push Xor xs b) ∙ xor_not (parity xs) b
  where
    xor_not : (x y : Bool) → not (xor x y) ≡ xor (not x) y
    xor_not true true = refl
    xor_not true false = refl
    xor_not false true = refl
    xor_not false false = refl
of_all-push Xor (false ∷ xs) b = of_all-push Xor xs b

pub record Joined (op : Connective) (start now : Netlist) (xs : List Wire) (w : Wire) (i : ℕ) : Type 0 where
  pub extends : Extends start now
  pub value : CarriesBit now w (λ input. of_all op (wire_values start input (take i xs)))

pub Joined-none : (op : Connective) (start : Netlist) (xs : List Wire) (w : Wire) → CarriesBit start w (λ input. of_all op []) → Joined op start start xs w 0
Joined-none op start xs w h = record { extends = Extends-refl start; value = h }

pub Joined-more : (op : Connective) (start now next : Netlist) (xs : List Wire) (w v d : Wire) (i : ℕ) → Joined op start now xs w i → i < length xs → AreWires start xs → Extends now next → CarriesBit next v (λ input. connected op (wire_value now input w) (wire_value now input (get_or xs i d))) → Joined op start next xs v (i + 1)
Joined-more op start now next xs w v d i r l h e c = record {
  extends = Extends-trans start now next r.extends e;
  value = record {
    wire = c.wire;
    value = λ input. c.value input
        ∙ ap₂ (connected op) (r.value.value input) (r.extends.values input (get_or xs i d) (All-get_or (IsWire start) xs i d l h))
        ∙ sym (ap (λ ws. of_all op (wire_values start input ws)) (take_more xs i d l) ∙ ap (of_all op) (map_push (wire_value start input) (take i xs) (get_or xs i d)) ∙ of_all-push op (wire_values start input (take i xs)) (wire_value start input (get_or xs i d)));
  };
}

pub Joined-all : (op : Connective) (start now : Netlist) (xs : List Wire) (w : Wire) (i : ℕ) → Joined op start now xs w i → i ≡ length xs → CarriesBit now w (λ input. of_all op (wire_values start input xs))
Joined-all op start now xs w i r e = record { wire = r.value.wire; value = λ input. r.value.value input ∙ ap (λ ws. of_all op (wire_values start input ws)) (take_all i xs (omega arith)) }

-- a choice

abbrev pub chosen_bit : Netlist → Wire → List Wire → List Wire → (ℕ → Bool) → ℕ → Bool
chosen_bit n t xs ys input i = if (wire_value n input t) then (get_or (wire_values n input xs) i false) else (get_or (wire_values n input ys) i false)

pub chosen_here : (start now next : Netlist) (t : Wire) (xs ys : List Wire) (w d e : Wire) (i : ℕ) → i < length xs → length xs ≡ length ys → IsWire start t → AreWires start xs → AreWires start ys → Extends start now → IsWire next w → ((input : ℕ → Bool) → wire_value next input w ≡ (if (wire_value now input t) then (wire_value now input (get_or xs i d)) else (wire_value now input (get_or ys i e)))) → CarriesBit next w (λ input. chosen_bit start t xs ys input i)
chosen_here start now next t xs ys w d e i l k ht hx hy x h v = record {
  wire = h;
  value = λ input. v input
      ∙ ap (λ c. if c then (wire_value now input (get_or xs i d)) else (wire_value now input (get_or ys i e))) (x.values input t ht)
      ∙ ap₂ (λ p q. if (wire_value start input t) then p else q)
      (x.values input (get_or xs i d) (All-get_or (IsWire start) xs i d l hx) ∙ value-read start input xs i d l)
      (x.values input (get_or ys i e) (All-get_or (IsWire start) ys i e (omega arith) hy) ∙ value-read start input ys i e (omega arith));
}

chosen_word : (t : Bool) (xs ys : List Bool) → length xs ≡ length ys → tabulate (length xs) (λ i. if t then (get_or xs i false) else (get_or ys i false)) ≡ (if t then xs else ys)
chosen_word true xs ys e = tabulated xs false
chosen_word false xs ys e = ap (λ k. tabulate k (λ i. get_or ys i false)) e ∙ tabulated ys false

pub chosen_all : (start now : Netlist) (t : Wire) (xs ys out : List Wire) (i : ℕ) → Filled start now (chosen_bit start t xs ys) out i → i ≡ length xs → length xs ≡ length ys → Carries now out (λ input. (if (wire_value start input t) then (wire_values start input xs) else (wire_values start input ys)))
chosen_all start now t xs ys out i h e k =
    Carries-same now out (λ input. tabulate (length xs) (chosen_bit start t xs ys input)) (λ input. (if (wire_value start input t) then (wire_values start input xs) else (wire_values start input ys))) (Filled-carries start now (chosen_bit start t xs ys) out i (length xs) h e)
    (λ input. ap (λ k. tabulate k (chosen_bit start t xs ys input)) (sym (width-values start input xs)) ∙ chosen_word (wire_value start input t) (wire_values start input xs) (wire_values start input ys) (width-values start input xs ∙ k ∙ sym (width-values start input ys)))

-- a word by a test, else a constant

abbrev pub chosen_or_bit : Netlist → Wire → List Wire → List Bool → (ℕ → Bool) → ℕ → Bool
chosen_or_bit n t xs bits input i = if (wire_value n input t) then (get_or (wire_values n input xs) i false) else (get_or bits i false)

pub chosen_or_here : (start now next : Netlist) (t : Wire) (xs : List Wire) (bits : List Bool) (w d : Wire) (other : Bool) (i : ℕ) → i < length xs → other ≡ get_or bits i false → IsWire start t → AreWires start xs → Extends start now → CarriesBit next w (λ input. (if (wire_value now input t) then (wire_value now input (get_or xs i d)) else other)) → CarriesBit next w (λ input. chosen_or_bit start t xs bits input i)
chosen_or_here start now next t xs bits w d other i l is ht hx x h = record {
  wire = h.wire;
  value = λ input. h.value input
      ∙ ap (λ c. if c then (wire_value now input (get_or xs i d)) else other) (x.values input t ht)
      ∙ ap₂ (λ p q. if (wire_value start input t) then p else q) (x.values input (get_or xs i d) (All-get_or (IsWire start) xs i d l hx) ∙ value-read start input xs i d l) is;
}

pub chosen_or_all : (start now : Netlist) (t : Wire) (xs out : List Wire) (bits : List Bool) (i : ℕ) → Filled start now (chosen_or_bit start t xs bits) out i → i ≡ length xs → length xs ≡ length bits → Carries now out (λ input. (if (wire_value start input t) then (wire_values start input xs) else bits))
chosen_or_all start now t xs out bits i h e k =
    Carries-same now out (λ input. tabulate (length xs) (chosen_or_bit start t xs bits input)) (λ input. (if (wire_value start input t) then (wire_values start input xs) else bits)) (Filled-carries start now (chosen_or_bit start t xs bits) out i (length xs) h e)
    (λ input. ap (λ k. tabulate k (chosen_or_bit start t xs bits input)) (sym (width-values start input xs)) ∙ chosen_word (wire_value start input t) (wire_values start input xs) bits (width-values start input xs ∙ k))
