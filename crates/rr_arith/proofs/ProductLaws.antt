-- the rows of a product
use Rattle.std.proofs.Common.{◌≡◌, ◌⊎◌, inl, inr, ℕ, ◌+◌, ◌-◌, ◌*◌, ◌%◌, ◌^◌, ◌<◌, ◌≤◌, nat_lt, Bool, true, false, cond, ◌&&◌, List, [], ◌∷◌, length, get_or, take, refl, sym, ◌∙◌, ap, arith}
use Rattle.std.proofs.lemmas.Bool.{cases_lt, lt-ltb, le-ltb}
use Rattle.std.proofs.lemmas.List.{take_all}
use Rattle.std.proofs.lemmas.List.Elements.{All-get_or}
use Rattle.std.proofs.Math.Nat.{add-mod}
use Rattle.rr_circuit.specs.declared.Wire.{Wire}
use Rattle.rr_circuit.specs.Values.{Netlist, wire_value, IsWire, Extends, AreWires, wire_values}
use Rattle.rr_circuit.proofs.Netlists.{wire_values-extends, Extends-trans}
use Rattle.rr_bits.specs.Words.{bit, number, tabulate, shl, add, mul}
use Rattle.rr_bits.specs.Fields.{number_word}
use Rattle.rr_bits.proofs.Numbers.{number-lt, word_number, word_wrapped}
use Rattle.rr_bits.proofs.Places.{has_zero, word_tabulated}
use Rattle.rr_bits.proofs.Operators.{Held, shl_is}
use Rattle.rr_bits.proofs.Gates.{product_from_number}
use Rattle.rr_arith.proofs.Ripple.{number-take, width-values}
use Rattle.rr_arith.proofs.ShiftLaws.{Filled}

abbrev pub row_bits : List Bool → Bool → ℕ → ℕ → Bool
row_bits vs t by i = cond (nat_lt i by) false (t && get_or vs (i - by) false)

abbrev pub row_value : Netlist → List Wire → Wire → ℕ → (ℕ → Bool) → ℕ → Bool
row_value n xs test by env i = row_bits (wire_values n env xs) (wire_value n env test) by i

held_word : (vs : List Bool) → 1 ≤ length vs → length vs ≤ 128 → Held (length vs) (number vs) vs
held_word vs l h = record {
  low = l;
  high = h;
  small = number-lt vs;
  same = word_number vs;
  width = refl;
  value = refl;
}

number_shl : (vs : List Bool) (by : ℕ) → 1 ≤ length vs → length vs ≤ 128 → number (shl vs by) ≡ (number vs * 2 ^ by) % 2 ^ length vs
number_shl vs by l h = ap number (sym (shl_is (length vs) (number vs) by vs (held_word vs l h)) ∙ word_wrapped (length vs) (number vs * 2 ^ by) h) ∙ number_word (length vs) (number vs * 2 ^ by)

number_row : (vs : List Bool) (t : Bool) (by : ℕ) → 1 ≤ length vs → length vs ≤ 128 → number (tabulate (length vs) (row_bits vs t by)) ≡ (number vs * (2 ^ by * bit t)) % 2 ^ length vs
number_row vs true by l h = let e : 2 ^ by * 1 ≡ 2 ^ by = omega arith in rw e (number_shl vs by l h)
number_row vs false by l h =
    let z : number vs * (2 ^ by * 0) ≡ 0 = omega arith in
    rw z (ap number (sym (word_tabulated (length vs) 0 (row_bits vs false by) (λ i k. has_zero i ∙ none i (cases_lt i by)))) ∙ number_word (length vs) 0)
  where
    none : (i : ℕ) → ((i < by) ⊎ (by ≤ i)) → false ≡ row_bits vs false by i
    none i (inl p) = rw (lt-ltb i by p) refl
    none i (inr p) = rw (le-ltb i by p) refl

empty_row : (vs : List Bool) (t : Bool) (by : ℕ) → length vs ≡ 0 → number (tabulate (length vs) (row_bits vs t by)) ≡ (number vs * (2 ^ by * bit t)) % 2 ^ length vs
unfolding tabulate number
empty_row [] t by e =
    let z : 0 * (2 ^ by * bit t) ≡ 0 = omega arith in
    ap (λ n. n % 1) (sym z)
empty_row (v ∷ vs) t by e = cc

pub Row-all : (start now : Netlist) (xs out : List Wire) (test : Wire) (by i : ℕ) → Filled start now (row_value start xs test by) out i → i ≡ length xs → length xs ≤ 128 → (env : ℕ → Bool) → number (wire_values now env out) ≡ (number (wire_values start env xs) * (2 ^ by * bit (wire_value start env test))) % 2 ^ length xs
Row-all start now xs out test by i r e h env =
    let w = width-values start env xs in
    ap number (r.value env ∙ ap (λ n. tabulate n (row_value start xs test by env)) (e ∙ sym w)) ∙ by_cases (cases_lt 0 (length xs)) ∙ rw w refl
  where
    by_cases : ((0 < length xs) ⊎ (length xs ≤ 0)) → number (tabulate (length (wire_values start env xs)) (row_bits (wire_values start env xs) (wire_value start env test) by)) ≡ (number (wire_values start env xs) * (2 ^ by * bit (wire_value start env test))) % 2 ^ length (wire_values start env xs)
    by_cases (inl p) = let w = width-values start env xs in number_row (wire_values start env xs) (wire_value start env test) by (omega arith) (omega arith)
    by_cases (inr p) = let w = width-values start env xs in empty_row (wire_values start env xs) (wire_value start env test) by (omega arith)

-- a row's bit in terms of the start
pub row_step : (start now : Netlist) (env : ℕ → Bool) (xs : List Wire) (test : Wire) (by i : ℕ) → Extends start now → AreWires start xs → IsWire start test → row_bits (wire_values now env xs) (wire_value now env test) by i ≡ row_value start xs test by env i
row_step start now env xs test by i e hx ht = rw (wire_values-extends start now xs env e hx, e.values env test ht) refl

-- ---- the sum of the rows

pub record Multiplied (start now : Netlist) (xs ys out : List Wire) (i : ℕ) : Type 0 where
  pub extends : Extends start now
  pub wires : AreWires now out
  pub width : length out ≡ length xs
  pub value : (env : ℕ → Bool) → number (wire_values now env out) ≡ (number (wire_values start env xs) * number (wire_values start env (take i ys))) % 2 ^ length xs

pub Multiplied-none : (start now : Netlist) (xs ys out : List Wire) (zero : Wire) → Extends start now → AreWires now out → length out ≡ length xs → ((env : ℕ → Bool) → wire_value start env zero ≡ false) → ((env : ℕ → Bool) → number (wire_values now env out) ≡ (number (wire_values start env xs) * (2 ^ 0 * bit (wire_value start env zero))) % 2 ^ length xs) → Multiplied start now xs ys out 0
unfolding number
Multiplied-none start now xs ys out zero e h w z v = record {
  extends = e;
  wires = h;
  width = w;
  value = λ env. rw (z env) at (v env);
}

spread : (x n p b : ℕ) → x * n + x * (p * b) ≡ x * (n + p * b)
spread x n p b = omega arith

pub Multiplied-more : (start now middle next : Netlist) (xs ys out slice row rows new : List Wire) (d : Wire) (i : ℕ) → slice ≡ out → rows ≡ row → Multiplied start now xs ys out i → i < length ys → AreWires start xs → AreWires start ys → Extends now middle → Extends middle next → AreWires next new → length new ≡ length slice
    → ((env : ℕ → Bool) → number (wire_values middle env row) ≡ (number (wire_values now env xs) * (2 ^ i * bit (wire_value now env (get_or ys i d)))) % 2 ^ length xs)
    → ((env : ℕ → Bool) → wire_values next env new ≡ add (wire_values middle env slice) (wire_values middle env rows))
    → Multiplied start next xs ys new (i + 1)
Multiplied-more start now middle next xs ys out slice row rows new d i is are r l hx hy e g h w v t = record {
  extends = Extends-trans start now next r.extends (Extends-trans now middle next e g);
  wires = h;
  width = w ∙ ap length is ∙ r.width;
  value = λ env.
      let same_x = wire_values-extends start now xs env r.extends hx in
      let same_y = r.extends.values env (get_or ys i d) (All-get_or (IsWire start) ys i d l hy) in
      let kept = wire_values-extends now middle out env e r.wires in
      let k : length (wire_values now env out) ≡ length xs = width-values now env out ∙ r.width in
      let row_is = rw (same_x, same_y) at (v env) in
      let sum = rw (is, are, kept) at (t env) in
      let total = rw (k, r.value env, row_is) at (ap number sum ∙ number_word _ _) in
      rw (number-take start env ys i d l) (total ∙ sym (add-mod _ _ _) ∙ ap (λ n. n % 2 ^ length xs) (spread _ _ _ _));
}

pub Multiplied-all : (start now : Netlist) (xs ys out : List Wire) (i : ℕ) → Multiplied start now xs ys out i → i ≡ length ys → (env : ℕ → Bool) → wire_values now env out ≡ mul (wire_values start env xs) (wire_values start env ys)
Multiplied-all start now xs ys out i r e env =
    let w = width-values start env xs in
    let v = rw (take_all i ys (omega arith)) at (r.value env) in
    product_from_number _ _ _ (width-values now env out ∙ r.width ∙ sym w) (rw w v)
