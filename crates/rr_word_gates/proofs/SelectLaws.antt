-- bits by places and by the numbers that wires write
use Rattle.std.proofs.Common.{◌≡◌, ℕ, zero, suc, ◌+◌, ◌-◌, ◌*◌, ◌^◌, ◌<◌, ◌≤◌, ◌⊎◌, inl, inr, ◌==◌, ◌≢◌, Bool, true, false, not, ◌&&◌, ◌||◌, if◌then◌else◌, List, [], ◌∷◌, ◌++◌, length, get_or, take, drop, refl, sym, ◌∙◌, ap, ap₂, arith, length-append, ℤ, pos, negsuc, ◌+ℤ◌, ◌-ℤ◌}
use Rattle.std.specs.Prelude.{Vec}
use Rattle.std.specs.Global.{Global}
use Rattle.std.specs.Ordering.{int_eq}
use Rattle.std.specs.Bool.{Decides}
use Rattle.std.proofs.lemmas.Bool.Decides.{Decides-int_eq}
use Rattle.std.proofs.lemmas.Int.{ints}
use Rattle.std.proofs.lemmas.Bool.{cases_eq, eq-eqb, ne_eqb, cases_lt}
use Rattle.std.proofs.lemmas.List.{get_or-map, get_or_past, map_push, take_more, take_all, drop_more, drop_all, length-take-le}
use Rattle.std.proofs.lemmas.List.Elements.{All-get_or}
use Rattle.std.proofs.Math.Nat.{mod-eq_of_lt}
use Rattle.std.proofs.Math.ListN.{get_or-append}
use Rattle.std.proofs.Math.Seq.{get_or-append_seam}
use Rattle.rr_circuit.specs.declared.Wire.{Wire}
use Rattle.rr_circuit.specs.Values.{Netlist, wire_value, IsWire, Extends, AreWires, wire_values}
use Rattle.rr_circuit.proofs.Netlists.{wire_values-extends, Extends-trans, Extends-refl}
use Rattle.rr_bits.specs.Words.{bit, number, word, tabulate, bit_in, select, reading, of_integer, negated, top}
use Rattle.rr_bits.specs.Fields.{length_word, number_word}
use Rattle.rr_bits.proofs.Numbers.{number-lt, word_number}
use Rattle.rr_bits.proofs.Places.{word_tabulated, has_zero}
use Rattle.rr_expr.proofs.Indices.{select_far}
use lib.IntN.{nat_abs}
use Rattle.rr_expr.specs.Selects.{place}
use Rattle.rr_arith.proofs.Ripple.{width-values}
use Rattle.rr_arith.proofs.ShiftLaws.{Filled, Filled-more}
use Rattle.rr_word_gates.specs.Carried.{Carries, CarriesBit}
use Rattle.rr_word_gates.proofs.Carrying.{Carries-same, CarriesBit-same, Filled-carries, value-read}

-- constant places

abbrev pub picked_bit : Netlist → List Wire → ℤ → (ℕ → Bool) → ℕ → Bool
picked_bit n xs from input i = bit_in (wire_values n input xs) (from +ℤ pos i)

pub picked_more : (n : Netlist) (xs out : List Wire) (from at : ℤ) (w : Wire) (i : ℕ) → Filled n n (picked_bit n xs from) out i → CarriesBit n w (λ input. bit_in (wire_values n input xs) at) → at ≡ from +ℤ pos i → Filled n n (picked_bit n xs from) (out ++ w ∷ []) (i + 1)
picked_more n xs out from at w i f h e = Filled-more n n n (picked_bit n xs from) out w i f (Extends-refl n) h.wire (λ input. h.value input ∙ ap (bit_in (wire_values n input xs)) e)

pub picked_all : (n : Netlist) (xs out : List Wire) (from start : ℤ) (i count : ℕ) → Filled n n (picked_bit n xs from) out i → from ≡ start → i ≡ count → Carries n out (λ input. select (wire_values n input xs) start count)
picked_all n xs out from start i count f e k =
    Carries-same n out (λ input. tabulate count (picked_bit n xs from input)) (λ input. select (wire_values n input xs) start count) (Filled-carries n n (picked_bit n xs from) out i count f k)
    (λ input. ap (λ z. select (wire_values n input xs) z count) e)

-- no bit is that far
pub picked_far : (n : Netlist) (out xs us : List Wire) (from z : ℤ) (count : ℕ) → us ≡ [] → length xs ≤ 128 → count ≤ 128 → 256 ≤ nat_abs from → Carries n out (λ input. select (wire_values n input us) z count) → Carries n out (λ input. select (wire_values n input xs) from count)
picked_far n out xs us from z count e l k far h =
    Carries-same n out (λ input. select (wire_values n input us) z count) (λ input. select (wire_values n input xs) from count) h
    (λ input. ap (λ ws. select (wire_values n input ws) z count) e ∙ sym (word_tabulated count 0 (λ i. bit_in [] (z +ℤ pos i)) (λ i m. has_zero i ∙ no_bit (z +ℤ pos i)))
    ∙ select_far count (wire_values n input xs) from (let w = width-values n input xs in omega arith) k far)
  where
    no_bit : (y : ℤ) → false ≡ bit_in [] y
    no_bit (pos m) = refl
    no_bit (negsuc m) = refl

-- a word that is a constant

equal_cons : (y c : Bool) (r q : List Bool) → (number (y ∷ r) == number (c ∷ q)) ≡ ((number r == number q) && (if c then y else (not y)))
unfolding number
equal_cons y c r q = by_cases y c (cases_eq (number r) (number q))
  where
    by_cases : (y c : Bool) → ((number r ≡ number q) ⊎ (number r ≡ number q → ⊥)) → ((bit y + 2 * number r) == (bit c + 2 * number q)) ≡ ((number r == number q) && (if c then y else (not y)))
    by_cases true true (inl e) = rw (eq-eqb (number r) (number q) e) (eq-eqb (1 + 2 * number r) (1 + 2 * number q) (omega arith))
    by_cases false false (inl e) = rw (eq-eqb (number r) (number q) e) (eq-eqb (0 + 2 * number r) (0 + 2 * number q) (omega arith))
    by_cases true false (inl e) = rw (eq-eqb (number r) (number q) e) (ne_eqb (1 + 2 * number r) (0 + 2 * number q) (λ p. omega arith))
    by_cases false true (inl e) = rw (eq-eqb (number r) (number q) e) (ne_eqb (0 + 2 * number r) (1 + 2 * number q) (λ p. omega arith))
    by_cases true c (inr e) = rw (ne_eqb (number r) (number q) e) (ne_eqb (1 + 2 * number r) (bit c + 2 * number q) (λ p. e (halves c p)))
      where
        halves : (c : Bool) → 1 + 2 * number r ≡ bit c + 2 * number q → number r ≡ number q
        halves true p = omega arith
        halves false p = absurd (omega arith)
    by_cases false c (inr e) = rw (ne_eqb (number r) (number q) e) (ne_eqb (0 + 2 * number r) (bit c + 2 * number q) (λ p. e (halves c p)))
      where
        halves : (c : Bool) → 0 + 2 * number r ≡ bit c + 2 * number q → number r ≡ number q
        halves true p = absurd (omega arith)
        halves false p = omega arith

equal_from : (ys bits : List Bool) (at : ℕ) → at < length ys → length ys ≡ length bits → (number (drop at ys) == number (drop at bits)) ≡ ((number (drop (at + 1) ys) == number (drop (at + 1) bits)) && (if (get_or bits at false) then (get_or ys at false) else (not (get_or ys at false))))
equal_from ys bits at l e =
    ap₂ (λ (us vs : List Bool). number us == number vs) (drop_more ys at false l) (drop_more bits at false (omega arith))
    ∙ equal_cons (get_or ys at false) (get_or bits at false) (drop (at + 1) ys) (drop (at + 1) bits)

-- the bits from the k-th from the top up are known to be those of the constant, or not
pub record Matched (start now : Netlist) (ys : List Wire) (bits : List Bool) (w : Wire) (i : ℕ) : Type 0 where
  pub extends : Extends start now
  pub value : CarriesBit now w (λ input. number (drop (length ys - i) (wire_values start input ys)) == number (drop (length ys - i) bits))

pub Matched-none : (start : Netlist) (ys : List Wire) (bits : List Bool) (w : Wire) → length ys ≡ length bits → IsWire start w → ((input : ℕ → Bool) → wire_value start input w ≡ true) → Matched start start ys bits w 0
Matched-none start ys bits w e h v = record {
  extends = Extends-refl start;
  value = record {
    wire = h;
    value = λ input.
        let k = width-values start input ys in
        let a : drop (length ys - 0) (wire_values start input ys) ≡ [] = drop_all (length ys - 0) (wire_values start input ys) (omega arith) in
        let b : drop (length ys - 0) bits ≡ [] = drop_all (length ys - 0) bits (omega arith) in
        v input ∙ sym (ap₂ (λ (us vs : List Bool). number us == number vs) a b ∙ eq-eqb (number []) (number []) refl);
  };
}

pub Matched-more : (start now next : Netlist) (ys : List Wire) (bits : List Bool) (one : Bool) (w u v d : Wire) (i at : ℕ) → Matched start now ys bits w i → i < length ys → at ≡ length ys - 1 - i → length ys ≡ length bits → AreWires start ys → Extends now next → one ≡ get_or bits at false
    → CarriesBit now u (λ input. (if one then (wire_value now input (get_or ys at d)) else (not (wire_value now input (get_or ys at d))))) → IsWire next v
    → ((input : ℕ → Bool) → wire_value next input v ≡ (wire_value now input w && wire_value now input u)) → Matched start next ys bits v (i + 1)
Matched-more start now next ys bits one w u v d i at m l e k hy x is c iv val = record {
  extends = Extends-trans start now next m.extends x;
  value = record {
    wire = iv;
    value = λ input.
        let wide = width-values start input ys in
        let read : wire_value now input (get_or ys at d) ≡ get_or (wire_values start input ys) at false = m.extends.values input (get_or ys at d) (All-get_or (IsWire start) ys at d (omega arith) hy) ∙ value-read start input ys at d (omega arith) in
        let here : at ≡ length ys - (i + 1) = omega arith in
        let next_one : at + 1 ≡ length ys - i = omega arith in
        val input
        ∙ ap₂ (λ p q. p && q) (m.value.value input) (c.value input ∙ ap₂ (λ o y. if o then y else (not y)) is read)
        ∙ ap (λ j. (number (drop j (wire_values start input ys)) == number (drop j bits)) && (if (get_or bits at false) then (get_or (wire_values start input ys) at false) else (not (get_or (wire_values start input ys) at false)))) (sym next_one)
        ∙ sym (equal_from (wire_values start input ys) bits at (omega arith) (wide ∙ k))
        ∙ ap (λ j. number (drop j (wire_values start input ys)) == number (drop j bits)) here;
  };
}

pub Matched-all : (start now : Netlist) (ys : List Wire) (bits : List Bool) (w : Wire) (i : ℕ) → Matched start now ys bits w i → i ≡ length ys → CarriesBit now w (λ input. number (wire_values start input ys) == number bits)
Matched-all start now ys bits w i m e = record {
  wire = m.value.wire;
  value = λ input. let none : length ys - i ≡ 0 = omega arith in m.value.value input ∙ ap (λ j. number (drop j (wire_values start input ys)) == number (drop j bits)) none;
}

-- the number that a word writes

number_positive : (xs : List Bool) (i : ℕ) → get_or xs i false ≡ true → 0 < number xs
unfolding number
number_positive [] i h = cc
number_positive (b ∷ bs) zero h = rw h (omega arith)
number_positive (b ∷ bs) (suc i) h = let r = number_positive bs i h in omega arith

-- a word is that of the number that it writes
of_reading : (signed : Bool) (ys : List Bool) → of_integer (length ys) (reading signed ys) ≡ ys
of_reading signed ys = by_cases (signed && top ys) refl
  where
    below : (k m : ℕ) (z : ℤ) → z ≡ pos k -ℤ pos m → 0 < k → k < m → of_integer (length ys) z ≡ negated (word (length ys) (m - k))
    below k m (pos n) e p l = absurd (omega (arith, ints))
    below k m (negsuc n) e p l = ap (λ j. negated (word (length ys) j)) (omega (arith, ints))

    by_cases : (t : Bool) → (signed && top ys) ≡ t → of_integer (length ys) (reading signed ys) ≡ ys
    by_cases false e = rw e (word_number ys)
    by_cases true e =
        let p : 0 < number ys = number_positive ys (length ys - 1) (both_true signed (top ys) e) in
        let l = number-lt ys in
        rw e (below (number ys) (2 ^ length ys) (pos (number ys) -ℤ pos (2 ^ length ys)) refl p l ∙ turned_back p l)
      where
        both_true : (a b : Bool) → (a && b) ≡ true → b ≡ true
        both_true true b h = h
        both_true false b h = cc

        turned_back : 0 < number ys → number ys < 2 ^ length ys → negated (word (length ys) (2 ^ length ys - number ys)) ≡ ys
        turned_back p l =
            let w : length (word (length ys) (2 ^ length ys - number ys)) ≡ length ys = length_word (length ys) (2 ^ length ys - number ys) in
            let n : number (word (length ys) (2 ^ length ys - number ys)) ≡ 2 ^ length ys - number ys = number_word (length ys) (2 ^ length ys - number ys) ∙ mod-eq_of_lt (omega arith) in
            ap₂ (λ j k. word j (2 ^ j - k)) w n ∙ ap (word (length ys)) (omega arith) ∙ word_number ys

same_word : (ys bits : List Bool) → length ys ≡ length bits → number ys ≡ number bits → ys ≡ bits
same_word ys bits e h = sym (word_number ys) ∙ ap₂ word e h ∙ word_number bits

-- whether a word writes an integer, by its word
pub reads_word : (signed : Bool) (ys bits : List Bool) (at : ℤ) → bits ≡ of_integer (length ys) at → length bits ≡ length ys → int_eq (reading signed bits) at ≡ true → (number ys == number bits) ≡ int_eq (reading signed ys) at
reads_word signed ys bits at is e fits = by_cases (cases_eq (number ys) (number bits))
  where
    by_cases : ((number ys ≡ number bits) ⊎ (number ys ≡ number bits → ⊥)) → (number ys == number bits) ≡ int_eq (reading signed ys) at
    by_cases (inl h) = eq-eqb (number ys) (number bits) h ∙ sym ((Decides-int_eq (reading signed ys) at).1 (ap (reading signed) (same_word ys bits (sym e) h) ∙ (Decides-int_eq (reading signed bits) at).0 fits))
    by_cases (inr h) = ne_eqb (number ys) (number bits) h ∙ other (int_eq (reading signed ys) at) refl
      where
        other : (t : Bool) → int_eq (reading signed ys) at ≡ t → false ≡ int_eq (reading signed ys) at
        other false q = sym q
        other true q = absurd (h (ap number (sym (of_reading signed ys) ∙ ap (of_integer (length ys)) ((Decides-int_eq (reading signed ys) at).0 q) ∙ sym is)))

pub reads_never : (signed : Bool) (ys bits : List Bool) (at : ℤ) → bits ≡ of_integer (length ys) at → int_eq (reading signed bits) at ≡ false → false ≡ int_eq (reading signed ys) at
reads_never signed ys bits at is never = other (int_eq (reading signed ys) at) refl
  where
    other : (t : Bool) → int_eq (reading signed ys) at ≡ t → false ≡ int_eq (reading signed ys) at
    other false q = sym q
    other true q =
        let r : reading signed ys ≡ at = (Decides-int_eq (reading signed ys) at).0 q in
        let same : bits ≡ ys = is ∙ ap (of_integer (length ys)) (sym r) ∙ of_reading signed ys in
        let yes : int_eq (reading signed bits) at ≡ true = (Decides-int_eq (reading signed bits) at).1 (ap (reading signed) same ∙ r) in
        let bad : true ≡ false = sym yes ∙ never in cc

length_of_integer : (w : ℕ) (z : ℤ) → length (of_integer w z) ≡ w
length_of_integer w (pos n) = length_word w n
length_of_integer w (negsuc n) = length_word (length (word w (suc n))) _ ∙ length_word w (suc n)

pub word_wide : (w : ℕ) (a : ℤ) (bits : List Bool) → bits ≡ of_integer w a → w ≡ length bits
word_wide w a bits e = sym (ap length e ∙ length_of_integer w a)

pub reads_yes : (n m : Netlist) (ys : List Wire) (bits : List Bool) (signed r : Bool) (a at k : ℤ) (w : Wire) → bits ≡ of_integer (length ys) a → k ≡ reading signed bits → r ≡ int_eq k a → r ≡ true → CarriesBit m w (λ input. number (wire_values n input ys) == number bits) → a ≡ at
    → CarriesBit m w (λ input. int_eq (reading signed (wire_values n input ys)) at)
reads_yes n m ys bits signed r a at k w is e f t h q = CarriesBit-same m w (λ input. number (wire_values n input ys) == number bits) (λ input. int_eq (reading signed (wire_values n input ys)) at) h
    (λ input.
    let wide = width-values n input ys in
    reads_word signed (wire_values n input ys) bits a (is ∙ ap (λ j. of_integer j a) (sym wide)) (sym (wide ∙ word_wide (length ys) a bits is)) (ap (λ z. int_eq z a) (sym e) ∙ sym f ∙ t)
    ∙ ap (int_eq (reading signed (wire_values n input ys))) q)

pub reads_no : (n : Netlist) (ys : List Wire) (bits : List Bool) (signed r : Bool) (a at k : ℤ) (w : Wire) → bits ≡ of_integer (length ys) a → k ≡ reading signed bits → r ≡ int_eq k a → r ≡ false → IsWire n w → ((input : ℕ → Bool) → wire_value n input w ≡ false) → a ≡ at
    → CarriesBit n w (λ input. int_eq (reading signed (wire_values n input ys)) at)
reads_no n ys bits signed r a at k w is e f t h v q = record {
  wire = h;
  value = λ input. v input ∙ reads_never signed (wire_values n input ys) bits a (is ∙ ap (λ j. of_integer j a) (sym (width-values n input ys))) (ap (λ z. int_eq z a) (sym e) ∙ sym f ∙ t) ∙ ap (int_eq (reading signed (wire_values n input ys))) q;
}

-- a bit by an index

alike : (r t : Bool) (P Q : Type 0) → Decides r P → Decides t Q → (P → Q) → (Q → P) → r ≡ t
alike true true P Q d e f g = refl
alike false false P Q d e f g = refl
alike true false P Q d e f g = sym (e.1 (f (d.0 refl)))
alike false true P Q d e f g = d.1 (g (e.0 refl))

bit_push : (vs : List Bool) (v : Bool) (z : ℤ) → bit_in (vs ++ v ∷ []) z ≡ (bit_in vs z || (int_eq z (pos (length vs)) && v))
bit_push vs v (negsuc n) = refl
bit_push vs v (pos n) = by_cases (cases_lt n (length vs))
  where
    never : n ≢ length vs → int_eq (pos n) (pos (length vs)) ≡ false
    never e = other (int_eq (pos n) (pos (length vs))) refl
      where
        other : (t : Bool) → int_eq (pos n) (pos (length vs)) ≡ t → int_eq (pos n) (pos (length vs)) ≡ false
        other false q = q
        other true q = absurd (e (let h : pos n ≡ pos (length vs) = (Decides-int_eq (pos n) (pos (length vs))).0 q in cc))

    same : n ≡ length vs → int_eq (pos n) (pos (length vs)) ≡ true
    same e = (Decides-int_eq (pos n) (pos (length vs))).1 (ap pos e)

    kept : (a t : Bool) → t ≡ false → a ≡ (a || (t && v))
    kept true t e = refl
    kept false t e = rw e refl

    found : (t : Bool) → t ≡ true → v ≡ (false || (t && v))
    found t e = rw e refl

    by_cases : ((n < length vs) ⊎ (length vs ≤ n)) → get_or (vs ++ v ∷ []) n false ≡ (get_or vs n false || (int_eq (pos n) (pos (length vs)) && v))
    by_cases (inl l) = get_or-append vs (v ∷ []) false n l ∙ kept (get_or vs n false) (int_eq (pos n) (pos (length vs))) (never (λ q. omega arith))
    by_cases (inr l) = last (cases_eq n (length vs)) ∙ sym (ap (λ b. b || (int_eq (pos n) (pos (length vs)) && v)) (get_or_past vs n false l))
      where
        last : ((n ≡ length vs) ⊎ (n ≡ length vs → ⊥)) → get_or (vs ++ v ∷ []) n false ≡ (false || (int_eq (pos n) (pos (length vs)) && v))
        last (inl e) = ap (λ k. get_or (vs ++ v ∷ []) k false) e ∙ get_or-append_seam vs v [] false ∙ found (int_eq (pos n) (pos (length vs))) (same e)
        last (inr e) = get_or_past (vs ++ v ∷ []) n false (let k = length-append vs (v ∷ []) in omega arith) ∙ kept false (int_eq (pos n) (pos (length vs))) (never e)

shifted_test : (z offset at : ℤ) (i : ℕ) → at ≡ pos i -ℤ offset → int_eq z at ≡ int_eq (z +ℤ offset) (pos i)
shifted_test z offset at i e = alike (int_eq z at) (int_eq (z +ℤ offset) (pos i)) (z ≡ at) (z +ℤ offset ≡ pos i) (Decides-int_eq z at) (Decides-int_eq (z +ℤ offset) (pos i)) (λ h. omega (arith, ints)) (λ h. omega (arith, ints))

pub record Found (start now : Netlist) (xs : List Wire) (y : (ℕ → Bool) → ℤ) (offset : ℤ) (w : Wire) (i : ℕ) : Type 0 where
  pub extends : Extends start now
  pub value : CarriesBit now w (λ input. bit_in (wire_values start input (take i xs)) (y input +ℤ offset))

pub Found-none : (start : Netlist) (xs : List Wire) (y : (ℕ → Bool) → ℤ) (offset : ℤ) (w : Wire) → IsWire start w → ((input : ℕ → Bool) → wire_value start input w ≡ false) → Found start start xs y offset w 0
Found-none start xs y offset w h v = record { extends = Extends-refl start; value = record { wire = h; value = λ input. v input ∙ none (y input +ℤ offset) } }
  where
    none : (k : ℤ) → false ≡ bit_in [] k
    none (pos n) = refl
    none (negsuc n) = refl

pub Found-more : (start now mid near next : Netlist) (xs : List Wire) (y q : (ℕ → Bool) → ℤ) (offset at : ℤ) (w t u v d : Wire) (i : ℕ) → Found start now xs y offset w i → i < length xs → AreWires start xs → Extends now mid → Extends mid near → Extends near next
    → at ≡ pos i -ℤ offset → ((input : ℕ → Bool) → q input ≡ y input) → CarriesBit mid t (λ input. int_eq (q input) at)
    → ((input : ℕ → Bool) → wire_value near input u ≡ (wire_value mid input t && wire_value mid input (get_or xs i d))) → IsWire next v
    → ((input : ℕ → Bool) → wire_value next input v ≡ (wire_value near input w || wire_value near input u)) → Found start next xs y offset v (i + 1)
Found-more start now mid near next xs y q offset at w t u v d i f l hx e1 e2 e3 a same test both iv any = record {
  extends = Extends-trans start now next f.extends (Extends-trans now mid next e1 (Extends-trans mid near next e2 e3));
  value = record {
    wire = iv;
    value = λ input.
        let before : wire_value near input w ≡ bit_in (wire_values start input (take i xs)) (y input +ℤ offset) = (Extends-trans now mid near e1 e2).values input w f.value.wire ∙ f.value.value input in
        let read : wire_value mid input (get_or xs i d) ≡ wire_value start input (get_or xs i d) = (Extends-trans start now mid f.extends e1).values input (get_or xs i d) (All-get_or (IsWire start) xs i d l hx) in
        let count : length (wire_values start input (take i xs)) ≡ i = width-values start input (take i xs) ∙ length-take-le i xs (omega arith) in
        let here : int_eq (q input) at ≡ int_eq (y input +ℤ offset) (pos (length (wire_values start input (take i xs)))) =
        ap (λ z. int_eq z at) (same input) ∙ shifted_test (y input) offset at i a ∙ ap (λ k. int_eq (y input +ℤ offset) (pos k)) (sym count) in
        any input ∙ ap₂ (λ a b. a || b) before (both input ∙ ap₂ (λ a b. a && b) (test.value input ∙ here) read)
        ∙ sym (ap (λ ws. bit_in (wire_values start input ws) (y input +ℤ offset)) (take_more xs i d l)
        ∙ ap (λ vs. bit_in vs (y input +ℤ offset)) (map_push (wire_value start input) (take i xs) (get_or xs i d))
        ∙ bit_push (wire_values start input (take i xs)) (wire_value start input (get_or xs i d)) (y input +ℤ offset));
  };
}

moved : (z : ℤ) (below up : ℕ) → z +ℤ (pos up -ℤ pos below) ≡ (z -ℤ pos below) +ℤ pos up
moved z below up = omega (arith, ints)

pub Found-all : (start now : Netlist) (xs : List Wire) (y : (ℕ → Bool) → ℤ) (below up : ℕ) (w : Wire) (i : ℕ) → Found start now xs y (pos up -ℤ pos below) w i → i ≡ length xs → CarriesBit now w (λ input. bit_in (wire_values start input xs) ((y input -ℤ pos below) +ℤ pos up))
Found-all start now xs y below up w i f e = record { wire = f.value.wire; value = λ input. f.value.value input ∙ ap₂ (λ ws z. bit_in (wire_values start input ws) z) (take_all i xs (omega arith)) (moved (y input) below up) }

-- so many bits by an index

abbrev pub selected_bit : Netlist → List Wire → List Wire → Bool → ℕ × ℕ → ℕ → (ℕ → Bool) → ℕ → Bool
selected_bit n xs ys signed range below input i = bit_in (wire_values n input xs) ((place range (reading signed (wire_values n input ys)) -ℤ pos below) +ℤ pos i)

pub selected_here : (start now next : Netlist) (xs ys : List Wire) (signed : Bool) (range : ℕ × ℕ) (below : ℕ) (w : Wire) (i : ℕ) → Extends start now → AreWires start xs → AreWires start ys → CarriesBit next w (λ input. selected_bit now xs ys signed range below input i)
    → CarriesBit next w (λ input. selected_bit start xs ys signed range below input i)
selected_here start now next xs ys signed range below w i x hx hy c = CarriesBit-same next w (λ input. selected_bit now xs ys signed range below input i) (λ input. selected_bit start xs ys signed range below input i) c
    (λ input. ap₂ (λ us vs. bit_in us ((place range (reading signed vs) -ℤ pos below) +ℤ pos i)) (wire_values-extends start now xs input x hx) (wire_values-extends start now ys input x hy))
