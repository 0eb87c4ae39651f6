-- the turns of comparisons
use Rattle.std.proofs.Common.{◌≡◌, ℕ, suc, ◌+◌, ◌-◌, ◌*◌, ◌^◌, ◌<◌, ◌≤◌, ◌==◌, ◌⊎◌, inl, inr, nat_lt, Bool, true, false, not, ◌&&◌, cond, length, get_or, take, refl, sym, ◌∙◌, ap, arith, pos, negsuc, ◌-ℤ◌, int_lt, List}
use Rattle.std.proofs.lemmas.Bool.{lt-ltb, le-ltb, cases_lt, eq-eqb, ne_eqb, cases_eq}
use Rattle.std.proofs.lemmas.Int.{ints}
use Rattle.std.proofs.lemmas.List.{take_all, length-take-le, get_or-map}
use Rattle.std.proofs.lemmas.List.Elements.{All-get_or}
use Rattle.rr_circuit.specs.declared.Wire.{Wire}
use Rattle.rr_circuit.specs.Values.{xor, Netlist, wire_value, IsWire, Extends, AreWires, wire_values}
use Rattle.rr_circuit.proofs.Netlists.{Extends-trans, Extends-refl}
use Rattle.rr_bits.specs.Words.{bit, number, less, top}
use Rattle.rr_bits.specs.Fields.{pow_next}
use Rattle.rr_bits.proofs.Numbers.{number-lt}
use Rattle.rr_arith.specs.Orders.{less_next}
use Rattle.rr_arith.proofs.Ripple.{number-take, width-values}

nat_lt_same : (a b c d : ℕ) → (a < b → c < d) → (b ≤ a → d ≤ c) → nat_lt a b ≡ nat_lt c d
nat_lt_same a b c d f g = by_cases (cases_lt a b)
  where
    by_cases : ((a < b) ⊎ (b ≤ a)) → nat_lt a b ≡ nat_lt c d
    by_cases (inl p) = lt-ltb a b p ∙ sym (lt-ltb c d (f p))
    by_cases (inr p) = le-ltb a b p ∙ sym (le-ltb c d (g p))

less_bit : (a b p : ℕ) (t x y : Bool) → a < p → b < p → t ≡ nat_lt a b → less_next t x y ≡ nat_lt (a + p * bit x) (b + p * bit y)
less_bit a b p t true true h l e = e ∙ nat_lt_same a b (a + p * 1) (b + p * 1) (λ q. omega arith) (λ q. omega arith)
less_bit a b p t false false h l e = e ∙ nat_lt_same a b (a + p * 0) (b + p * 0) (λ q. omega arith) (λ q. omega arith)
less_bit a b p t true false h l e = sym (le-ltb (a + p * 1) (b + p * 0) (omega arith))
less_bit a b p t false true h l e = sym (lt-ltb (a + p * 0) (b + p * 1) (omega arith))

both_negative : (a b p : ℕ) → a < p → b < p → nat_lt a b ≡ int_lt (pos a -ℤ pos p) (pos b -ℤ pos p)
both_negative a b p h l = grind (arith, ints)

below_zero : (a p : ℕ) → a < p → pos a -ℤ pos p ≡ negsuc (p - suc a)
below_zero a p h = omega (arith, ints)

-- the top bits count downwards
signed_bit : (a b p q : ℕ) (t x y : Bool) → a < p → b < p → q ≡ p * 2 → t ≡ nat_lt a b → less_next t y x ≡ int_lt (cond x (pos (a + p * bit x) -ℤ pos q) (pos (a + p * bit x))) (cond y (pos (b + p * bit y) -ℤ pos q) (pos (b + p * bit y)))
signed_bit a b p q t true true h l s e = e ∙ nat_lt_same a b (a + p * 1) (b + p * 1) (λ k. omega arith) (λ k. omega arith) ∙ both_negative (a + p * 1) (b + p * 1) q (omega arith) (omega arith)
signed_bit a b p q t false false h l s e = e ∙ nat_lt_same a b (a + p * 0) (b + p * 0) (λ k. omega arith) (λ k. omega arith)
signed_bit a b p q t true false h l s e = rw (below_zero (a + p * 1) q (omega arith)) refl
signed_bit a b p q t false true h l s e = rw (below_zero (b + p * 1) q (omega arith)) refl

equal_bit : (a b p : ℕ) (t x y : Bool) → a < p → b < p → t ≡ (a == b) → (t && not (xor x y)) ≡ ((a + p * bit x) == (b + p * bit y))
equal_bit a b p t x y h l e = rw e (by_cases (cases_eq a b) x y)
  where
    by_cases : ((a ≡ b) ⊎ (a ≡ b → ⊥)) → (x y : Bool) → ((a == b) && not (xor x y)) ≡ ((a + p * bit x) == (b + p * bit y))
    by_cases (inl q) true true = rw (eq-eqb a b q) (sym (eq-eqb (a + p * 1) (b + p * 1) (omega arith)))
    by_cases (inl q) false false = rw (eq-eqb a b q) (sym (eq-eqb (a + p * 0) (b + p * 0) (omega arith)))
    by_cases (inl q) true false = rw (eq-eqb a b q) (sym (ne_eqb (a + p * 1) (b + p * 0) (λ k. omega arith)))
    by_cases (inl q) false true = rw (eq-eqb a b q) (sym (ne_eqb (a + p * 0) (b + p * 1) (λ k. omega arith)))
    by_cases (inr q) true true = rw (ne_eqb a b q) (sym (ne_eqb (a + p * 1) (b + p * 1) (λ k. q (omega arith))))
    by_cases (inr q) false false = rw (ne_eqb a b q) (sym (ne_eqb (a + p * 0) (b + p * 0) (λ k. q (omega arith))))
    by_cases (inr q) true false = rw (ne_eqb a b q) (sym (ne_eqb (a + p * 1) (b + p * 0) (λ k. omega arith)))
    by_cases (inr q) false true = rw (ne_eqb a b q) (sym (ne_eqb (a + p * 0) (b + p * 1) (λ k. omega arith)))

-- the number of the lower bits is small
pub number-take-lt : (n : Netlist) (env : ℕ → Bool) (xs : List Wire) (i : ℕ) → i ≤ length xs → number (wire_values n env (take i xs)) < 2 ^ i
number-take-lt n env xs i l =
    let k : length (wire_values n env (take i xs)) ≡ i = width-values n env (take i xs) ∙ length-take-le i xs l in
    rw k at (number-lt (wire_values n env (take i xs)))

-- a wire that compares the lower i bits
pub record Compared (compare : ℕ → ℕ → Bool) (start now : Netlist) (xs ys : List Wire) (w : Wire) (i : ℕ) : Type 0 where
  pub extends : Extends start now
  pub wire : IsWire now w
  pub value : (env : ℕ → Bool) → wire_value now env w ≡ compare (number (wire_values start env (take i xs))) (number (wire_values start env (take i ys)))

pub Compared-none : (compare : ℕ → ℕ → Bool) (start : Netlist) (xs ys : List Wire) (w : Wire) → IsWire start w → ((env : ℕ → Bool) → wire_value start env w ≡ compare 0 0) → Compared compare start start xs ys w 0
unfolding number
Compared-none compare start xs ys w h v = record { extends = Extends-refl start; wire = h; value = v }

pub Less-more : (start now next : Netlist) (xs ys : List Wire) (w v d : Wire) (i : ℕ) → Compared nat_lt start now xs ys w i → i < length xs → i < length ys → AreWires start xs → AreWires start ys → Extends now next → IsWire next v → ((env : ℕ → Bool) → wire_value next env v ≡ less_next (wire_value now env w) (wire_value now env (get_or xs i d)) (wire_value now env (get_or ys i d))) → Compared nat_lt start next xs ys v (i + 1)
Less-more start now next xs ys w v d i r lx ly wx wy e h t = record {
  extends = Extends-trans start now next r.extends e;
  wire = h;
  value = λ env.
      let same_x = r.extends.values env (get_or xs i d) (All-get_or (IsWire start) xs i d lx wx) in
      let same_y = r.extends.values env (get_or ys i d) (All-get_or (IsWire start) ys i d ly wy) in
      let here = rw (same_x, same_y) at (t env) in
      here ∙ rw (number-take start env xs i d lx, number-take start env ys i d ly) (less_bit _ _ (2 ^ i) _ _ _ (number-take-lt start env xs i (omega arith)) (number-take-lt start env ys i (omega arith)) (r.value env));
}

pub Equal-more : (start now next : Netlist) (xs ys : List Wire) (w v d : Wire) (i : ℕ) → Compared (λ a b. a == b) start now xs ys w i → i < length xs → i < length ys → AreWires start xs → AreWires start ys → Extends now next → IsWire next v → ((env : ℕ → Bool) → wire_value next env v ≡ (wire_value now env w && not (xor (wire_value now env (get_or xs i d)) (wire_value now env (get_or ys i d))))) → Compared (λ a b. a == b) start next xs ys v (i + 1)
Equal-more start now next xs ys w v d i r lx ly wx wy e h t = record {
  extends = Extends-trans start now next r.extends e;
  wire = h;
  value = λ env.
      let same_x = r.extends.values env (get_or xs i d) (All-get_or (IsWire start) xs i d lx wx) in
      let same_y = r.extends.values env (get_or ys i d) (All-get_or (IsWire start) ys i d ly wy) in
      let here = rw (same_x, same_y) at (t env) in
      here ∙ rw (number-take start env xs i d lx, number-take start env ys i d ly) (equal_bit _ _ (2 ^ i) _ _ _ (number-take-lt start env xs i (omega arith)) (number-take-lt start env ys i (omega arith)) (r.value env));
}

pub Compared-all : (compare : ℕ → ℕ → Bool) (start now : Netlist) (xs ys : List Wire) (w : Wire) (i : ℕ) → Compared compare start now xs ys w i → i ≡ length xs → length xs ≡ length ys → (env : ℕ → Bool) → wire_value now env w ≡ compare (number (wire_values start env xs)) (number (wire_values start env ys))
Compared-all compare start now xs ys w i r e l env = rw (take_all i xs (omega arith), take_all i ys (omega arith)) at (r.value env)

-- the lower bits and the top one
whole : (n : Netlist) (env : ℕ → Bool) (xs : List Wire) (k : ℕ) (d : Wire) → length xs ≡ suc k → number (wire_values n env xs) ≡ number (wire_values n env (take k xs)) + 2 ^ k * bit (wire_value n env (get_or xs k d))
whole n env xs k d l = rw (take_all (k + 1) xs (omega arith)) at (number-take n env xs k d (omega arith))

top_wire : (n : Netlist) (env : ℕ → Bool) (xs : List Wire) (k : ℕ) (d : Wire) → length xs ≡ suc k → top (wire_values n env xs) ≡ wire_value n env (get_or xs k d)
top_wire n env xs k d l =
    let e : length (wire_values n env xs) - 1 ≡ k = let w = width-values n env xs in omega arith in
    rw e (get_or-map (wire_value n env) xs k d false (omega arith))

pub signed_word : (n : Netlist) (env : ℕ → Bool) (xs ys : List Wire) (k : ℕ) (d : Wire) (t : Bool) → length xs ≡ suc k → length xs ≡ length ys → t ≡ nat_lt (number (wire_values n env (take k xs))) (number (wire_values n env (take k ys))) → less_next t (wire_value n env (get_or ys k d)) (wire_value n env (get_or xs k d)) ≡ less true (wire_values n env xs) (wire_values n env ys)
signed_word n env xs ys k d t l w e =
    let v : length ys ≡ suc k = sym w ∙ l in
    let px : 2 ^ length (wire_values n env xs) ≡ 2 ^ suc k = ap (λ j. 2 ^ j) (width-values n env xs ∙ l) in
    let py : 2 ^ length (wire_values n env ys) ≡ 2 ^ suc k = ap (λ j. 2 ^ j) (width-values n env ys ∙ v) in
    let p : 2 ^ suc k ≡ 2 ^ k * 2 = let q = pow_next k in omega arith in
    rw (top_wire n env xs k d l, top_wire n env ys k d v, whole n env xs k d l, whole n env ys k d v, px, py)
    (signed_bit _ _ (2 ^ k) (2 ^ suc k) t _ _ (number-take-lt n env xs k (omega arith)) (number-take-lt n env ys k (omega arith)) p e)

pub Signed-all : (start now next : Netlist) (xs ys : List Wire) (w v d : Wire) (k : ℕ) → length xs ≡ suc k → length xs ≡ length ys → AreWires start xs → AreWires start ys → Extends start now → ((env : ℕ → Bool) → wire_value now env w ≡ nat_lt (number (wire_values start env (take k xs))) (number (wire_values start env (take k ys)))) → ((env : ℕ → Bool) → wire_value next env v ≡ less_next (wire_value now env w) (wire_value now env (get_or ys k d)) (wire_value now env (get_or xs k d))) → (env : ℕ → Bool) → wire_value next env v ≡ less true (wire_values start env xs) (wire_values start env ys)
Signed-all start now next xs ys w v d k l m wx wy e t u env =
    let same_x = e.values env (get_or xs k d) (All-get_or (IsWire start) xs k d (omega arith) wx) in
    let same_y = e.values env (get_or ys k d) (All-get_or (IsWire start) ys k d (omega arith) wy) in
    let here = rw (same_x, same_y) at (u env) in
    here ∙ signed_word start env xs ys k d (wire_value now env w) l m (t env)
