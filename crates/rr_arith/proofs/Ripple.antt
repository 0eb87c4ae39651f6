-- the turn of a ripple adder
use Rattle.std.proofs.Common.{◌≡◌, ℕ, ◌+◌, ◌-◌, ◌*◌, ◌%◌, ◌^◌, ◌<◌, Bool, true, false, not, List, [], ◌∷◌, ◌++◌, length, get_or, take, map, refl, sym, ◌∙◌, ap, arith, length-append, rules}
use Rattle.std.proofs.lemmas.List.{take_more, map_push, take_all, length-map, length-take-le}
use Rattle.std.proofs.lemmas.List.Elements.{All-push, All-get_or}
use Rattle.std.proofs.lemmas.Grind.{pow_more}
use Rattle.std.proofs.Math.Nat.{add-mul-mod_self_left, mod-eq_of_lt}
use Rattle.rr_circuit.specs.declared.Wire.{Wire}
use Rattle.rr_circuit.specs.Values.{Netlist, wire_value, IsWire, Extends, AreWires, wire_values}
use Rattle.rr_circuit.proofs.Netlists.{AreWires-extends, wire_values-extends, Extends-trans, Extends-refl}
use Rattle.rr_bits.specs.Words.{bit, number, add, sub}
use Rattle.rr_bits.specs.Fields.{pow_next}
use Rattle.rr_bits.proofs.Numbers.{number-lt}
use Rattle.rr_bits.proofs.Gates.{sum_from_number, difference_from_number}

pub number-push : (xs : List Bool) (b : Bool) → number (xs ++ b ∷ []) ≡ number xs + 2 ^ length xs * bit b
unfolding number
number-push [] b = omega arith
number-push (x ∷ xs) b =
    let h = number-push xs b in
    let e = pow_next (length xs) in
    let m : 2 * (2 ^ length xs * bit b) ≡ 2 * 2 ^ length xs * bit b = omega arith in
    rw (h, e) (omega arith)

pub width-values : (n : Netlist) (env : ℕ → Bool) (ws : List Wire) → length (wire_values n env ws) ≡ length ws
width-values n env ws = length-map ws (wire_value n env)

-- what is known of the builder after i bits
pub record Rippled (start now : Netlist) (xs ys sums : List Wire) (low carry : Wire) (i : ℕ) : Type 0 where
  pub extends : Extends start now
  pub carry_in : IsWire now carry
  pub sums_in : AreWires now sums
  pub width : length sums ≡ i
  pub value : (env : ℕ → Bool) → number (wire_values now env sums) + 2 ^ i * bit (wire_value now env carry) ≡ number (wire_values start env (take i xs)) + number (wire_values start env (take i ys)) + bit (wire_value start env low)

pub number-take : (n : Netlist) (env : ℕ → Bool) (xs : List Wire) (i : ℕ) (d : Wire) → i < length xs → number (wire_values n env (take (i + 1) xs)) ≡ number (wire_values n env (take i xs)) + 2 ^ i * bit (wire_value n env (get_or xs i d))
number-take n env xs i d l =
    let e = take_more xs i d l in
    let k : length (wire_values n env (take i xs)) ≡ i = width-values n env (take i xs) ∙ length-take-le i xs (omega arith) in
    rw (e, map_push) (rw number-push (rw k refl))

carried : (S A B P bx by bc bs bo c : ℕ) → S + P * bc ≡ A + B + c → bs + 2 * bo ≡ bx + by + bc → (S + P * bs) + (P * 2) * bo ≡ (A + P * bx) + (B + P * by) + c
carried S A B P bx by bc bs bo c old here = let m = ap (λ k. P * k) here in omega arith

pub Rippled-none : (start : Netlist) (xs ys sums : List Wire) (low : Wire) → IsWire start low → sums ≡ [] → Rippled start start xs ys sums low low 0
unfolding number
Rippled-none start xs ys sums low h e = record {
  extends = Extends-refl start;
  carry_in = h;
  sums_in = rw e (search rules);
  width = rw e refl;
  value = λ env. rw e (omega arith);
}

pub Rippled-more : (start now next : Netlist) (xs ys sums : List Wire) (low carry sum out d : Wire) (i : ℕ) → Rippled start now xs ys sums low carry i → i < length xs → i < length ys → AreWires start xs → AreWires start ys → Extends now next → IsWire next sum → IsWire next out → ((env : ℕ → Bool) → bit (wire_value next env sum) + 2 * bit (wire_value next env out) ≡ bit (wire_value now env (get_or xs i d)) + bit (wire_value now env (get_or ys i d)) + bit (wire_value now env carry)) → Rippled start next xs ys (sums ++ sum ∷ []) low out (i + 1)
Rippled-more start now next xs ys sums low carry sum out d i r lx ly wx wy e hs ho v = record {
  extends = Extends-trans start now next r.extends e;
  carry_in = ho;
  sums_in = All-push (IsWire next) sums sum (AreWires-extends now next sums e r.sums_in) hs;
  width = let p = length-append sums (sum ∷ []) in let w = r.width in omega arith;
  value = λ env.
      let old = r.value env in
      let kept = wire_values-extends now next sums env e r.sums_in in
      let same_x = r.extends.values env (get_or xs i d) (All-get_or (IsWire start) xs i d lx wx) in
      let same_y = r.extends.values env (get_or ys i d) (All-get_or (IsWire start) ys i d ly wy) in
      let tx = number-take start env xs i d lx in
      let ty = number-take start env ys i d ly in
      let here = rw (same_x, same_y) at (v env) in
      let k : length (wire_values next env sums) ≡ i = width-values next env sums ∙ r.width in
      let push = number-push (wire_values next env sums) (wire_value next env sum) in
      rw (map_push (wire_value next env) sums sum, tx, ty, push, k, kept, pow_more 2 i) (carried _ _ _ _ _ _ _ _ _ _ old here);
}

-- after the last bit
pub Rippled-all : (start now : Netlist) (xs ys sums : List Wire) (low carry : Wire) (i n : ℕ) → Rippled start now xs ys sums low carry i → i ≡ n → n ≡ length xs → length xs ≡ length ys → (env : ℕ → Bool) → number (wire_values now env sums) ≡ (number (wire_values start env xs) + number (wire_values start env ys) + bit (wire_value start env low)) % 2 ^ n
Rippled-all start now xs ys sums low carry i n r e l w env =
    let v = rw (take_all i xs (omega arith), take_all i ys (omega arith)) at (r.value env) in
    let k : length (wire_values now env sums) ≡ i = width-values now env sums ∙ r.width in
    let b = rw k at (number-lt (wire_values now env sums)) in
    sym (rw (← v, ← e) (add-mul-mod_self_left (number (wire_values now env sums)) (2 ^ i) (bit (wire_value now env carry)) ∙ mod-eq_of_lt b))

-- the sum of wires' values as the word
pub sum_word : (n m : Netlist) (env : ℕ → Bool) (xs ys zs : List Wire) (c : Bool) → c ≡ false → length zs ≡ length xs → number (wire_values m env zs) ≡ (number (wire_values n env xs) + number (wire_values n env ys) + bit c) % 2 ^ length xs → wire_values m env zs ≡ add (wire_values n env xs) (wire_values n env ys)
sum_word n m env xs ys zs c h l e =
    let w = width-values n env xs in
    let z : number (wire_values n env xs) + number (wire_values n env ys) + 0 ≡ number (wire_values n env xs) + number (wire_values n env ys) = omega arith in
    sum_from_number _ _ _ (width-values m env zs ∙ l ∙ sym w) (rw w (rw (h, z) at e))

number_not : (xs : List Bool) → number (map not xs) + number xs + 1 ≡ 2 ^ length xs
unfolding number
number_not [] = refl
number_not (true ∷ xs) = let h = number_not xs in rw pow_next (omega arith)
number_not (false ∷ xs) = let h = number_not xs in rw pow_next (omega arith)

-- a sum with the inverted word and a carry is the difference
pub difference_word : (n m : Netlist) (env : ℕ → Bool) (xs ys zs : List Wire) (is : List Bool) (c : Bool) → c ≡ true → is ≡ map not (wire_values n env ys) → length xs ≡ length ys → length zs ≡ length xs → number (wire_values m env zs) ≡ (number (wire_values n env xs) + number is + bit c) % 2 ^ length xs → wire_values m env zs ≡ sub (wire_values n env xs) (wire_values n env ys)
difference_word n m env xs ys zs is c h k l s e =
    let w = width-values n env xs in
    let v = width-values n env ys in
    let i = number_not (wire_values n env ys) in
    let p : 2 ^ length (wire_values n env ys) ≡ 2 ^ length xs = ap (λ j. 2 ^ j) (v ∙ sym l) in
    let z : number (wire_values n env xs) + number (map not (wire_values n env ys)) + 1 ≡ number (wire_values n env xs) + (2 ^ length xs - number (wire_values n env ys)) = omega arith in
    difference_from_number _ _ _ (width-values m env zs ∙ s ∙ sym w) (rw w (rw (h, k, z) at e))

-- the wires negated, up to i
pub record Inverted (n : Netlist) (xs out : List Wire) (i : ℕ) : Type 0 where
  pub wires : AreWires n out
  pub width : length out ≡ i
  pub value : (env : ℕ → Bool) → wire_values n env out ≡ map not (wire_values n env (take i xs))

pub Inverted-more : (n : Netlist) (xs out : List Wire) (w d : Wire) (i : ℕ) → Inverted n xs out i → i < length xs → IsWire n w → ((env : ℕ → Bool) → wire_value n env w ≡ not (wire_value n env (get_or xs i d))) → Inverted n xs (out ++ w ∷ []) (i + 1)
Inverted-more n xs out w d i r l h v = record {
  wires = All-push (IsWire n) out w r.wires h;
  width = let p = length-append out (w ∷ []) in let k = r.width in omega arith;
  value = λ env. rw (take_more xs i d l, map_push (wire_value n env) out w, map_push (wire_value n env) (take i xs) (get_or xs i d), map_push not (wire_values n env (take i xs)) (wire_value n env (get_or xs i d)), r.value env, v env) refl;
}

pub Inverted-all : (n : Netlist) (xs out : List Wire) (i : ℕ) → Inverted n xs out i → i ≡ length xs → (env : ℕ → Bool) → wire_values n env out ≡ map not (wire_values n env xs)
Inverted-all n xs out i r e env = rw (take_all i xs (omega arith)) at (r.value env)
