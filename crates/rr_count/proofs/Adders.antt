-- the turns of a network of full adders, and of a word of constants
use Rattle.std.proofs.Common.{◌≡◌, ℕ, zero, suc, ◌+◌, ◌*◌, ◌/◌, ◌%◌, ◌^◌, ◌==◌, ◌<◌, ◌≤◌, Bool, false, List, [], ◌∷◌, ◌++◌, length, get_or, take, refl, sym, ◌∙◌, ap, arith, rules, length-append}
use Rattle.std.proofs.Math.Nat.{mul-le-mul_left}
use Rattle.std.proofs.lemmas.List.{take_all, take_more, take-append-le, map_push, get_or-map}
use Rattle.std.proofs.lemmas.List.Elements.{All-push}
use Rattle.std.proofs.lemmas.Grind.{pow_more}
use Rattle.rr_circuit.specs.declared.Wire.{Wire}
use Rattle.rr_circuit.specs.Values.{Netlist, wire_value, IsWire, Extends, AreWires, wire_values}
use Rattle.rr_circuit.proofs.Netlists.{AreWires-extends, wire_values-extends, Extends-trans, Extends-refl}
use Rattle.rr_bits.specs.Words.{bit, number}
use Rattle.rr_bits.specs.Fields.{bit_odd}
use Rattle.rr_arith.proofs.Ripple.{number-push, width-values}
use Rattle.rr_count.specs.Counts.{true_count}
use Rattle.rr_count.proofs.Counters.{count-push}

-- a false wire more changes no count
pub count-false : (n : Netlist) (env : ℕ → Bool) (xs : List Wire) (w : Wire) → wire_value n env w ≡ false → true_count (wire_values n env (xs ++ w ∷ [])) ≡ true_count (wire_values n env xs)
count-false n env xs w e = let p = count-push (wire_values n env xs) (wire_value n env w) in rw (map_push (wire_value n env) xs w, p, e) (omega arith)

-- ---- a queue

count-more : (vs : List Bool) (k : ℕ) → k < length vs → true_count (take (k + 1) vs) ≡ true_count (take k vs) + bit (get_or vs k false)
count-more vs k l = rw (take_more vs k false l) (count-push (take k vs) (get_or vs k false))

-- a full adder moves what it takes from the front of the queue to its end and to the carries
turn : (vs cs : List Bool) (s c : Bool) (i t : ℕ) → true_count vs + 2 * true_count cs ≡ t + true_count (take (3 * i) vs) → 3 * i + 2 < length vs →
    bit s + 2 * bit c ≡ bit (get_or vs (3 * i) false) + bit (get_or vs (3 * i + 1) false) + bit (get_or vs (3 * i + 2) false) →
    true_count (vs ++ s ∷ []) + 2 * true_count (cs ++ c ∷ []) ≡ t + true_count (take (3 * (i + 1)) (vs ++ s ∷ []))
turn vs cs s c i t old l here =
    let places : 3 * (i + 1) ≡ 3 * i + 2 + 1 = omega arith in
    let second : 3 * i + 2 ≡ 3 * i + 1 + 1 = omega arith in
    let a = count-more vs (3 * i) (omega arith) in
    let b = count-more vs (3 * i + 1) (omega arith) in
    let d = count-more vs (3 * i + 2) l in
    let e : true_count (take (3 * i + 2) vs) ≡ true_count (take (3 * i + 1 + 1) vs) = ap (λ k. true_count (take k vs)) second in
    let sums = count-push vs s in
    let carries = count-push cs c in
    rw (places, take-append-le (3 * i + 2 + 1) vs (s ∷ []) (omega arith)) (omega arith)

-- the value of the wire at a place
read : (n : Netlist) (env : ℕ → Bool) (ws : List Wire) (k : ℕ) (w : Wire) → k < length ws → w ≡ get_or ws k w → get_or (wire_values n env ws) k false ≡ wire_value n env w
read n env ws k w l e = get_or-map (wire_value n env) ws k w false l ∙ ap (wire_value n env) (sym e)

pub record Added (start now : Netlist) (first queue carries : List Wire) (i : ℕ) : Type 0 where
  pub extends : Extends start now
  pub queue_in : AreWires now queue
  pub carries_in : AreWires now carries
  pub room : length queue ≡ length first + i
  pub width : length carries ≡ i
  pub value : (env : ℕ → Bool) → true_count (wire_values now env queue) + 2 * true_count (wire_values now env carries) ≡ true_count (wire_values start env first) + true_count (take (3 * i) (wire_values now env queue))

pub Added-none : (start : Netlist) (first carries : List Wire) → AreWires start first → carries ≡ [] → Added start start first first carries 0
Added-none start first carries h e = record {
  extends = Extends-refl start;
  queue_in = h;
  carries_in = rw e (search rules);
  room = omega arith;
  width = rw e refl;
  value = λ env. rw e (omega arith);
}

pub Added-more : (start now next : Netlist) (first queue carries : List Wire) (x y z sum carry : Wire) (i : ℕ) → Added start now first queue carries i → 3 * i + 2 < length queue →
    x ≡ get_or queue (3 * i) x → y ≡ get_or queue (3 * i + 1) y → z ≡ get_or queue (3 * i + 2) z → Extends now next → IsWire next sum → IsWire next carry →
    ((env : ℕ → Bool) → bit (wire_value next env sum) + 2 * bit (wire_value next env carry) ≡ bit (wire_value now env x) + bit (wire_value now env y) + bit (wire_value now env z)) →
    Added start next first (queue ++ sum ∷ []) (carries ++ carry ∷ []) (i + 1)
Added-more start now next first queue carries x y z sum carry i r l ex ey ez e hs hc v = record {
  extends = Extends-trans start now next r.extends e;
  queue_in = All-push (IsWire next) queue sum (AreWires-extends now next queue e r.queue_in) hs;
  carries_in = All-push (IsWire next) carries carry (AreWires-extends now next carries e r.carries_in) hc;
  room = let p = length-append queue (sum ∷ []) in let k = r.room in omega arith;
  width = let p = length-append carries (carry ∷ []) in let k = r.width in omega arith;
  value = λ env.
      let here : bit (wire_value next env sum) + 2 * bit (wire_value next env carry) ≡ bit (get_or (wire_values now env queue) (3 * i) false) + bit (get_or (wire_values now env queue) (3 * i + 1) false) + bit (get_or (wire_values now env queue) (3 * i + 2) false)
      = rw (read now env queue (3 * i) x (omega arith) ex, read now env queue (3 * i + 1) y (omega arith) ey, read now env queue (3 * i + 2) z l ez) (v env) in
      let w = width-values now env queue in
      rw (map_push (wire_value next env) queue sum, map_push (wire_value next env) carries carry, wire_values-extends now next queue env e r.queue_in, wire_values-extends now next carries env e r.carries_in)
      (turn (wire_values now env queue) (wire_values now env carries) (wire_value next env sum) (wire_value next env carry) i (true_count (wire_values start env first)) (r.value env) (omega arith) here);
}

-- the last of the queue is the lowest bit
pub Added-all : (start now : Netlist) (first queue carries : List Wire) (w : Wire) (i n : ℕ) → Added start now first queue carries i → i ≡ n → length first ≡ 2 * n + 1 → w ≡ get_or queue (3 * n) w → (env : ℕ → Bool) →
    true_count (wire_values start env first) ≡ bit (wire_value now env w) + 2 * true_count (wire_values now env carries)
Added-all start now first queue carries w i n r e l ew env =
    let long = width-values now env queue in
    let k = r.room in
    let last = count-more (wire_values now env queue) (3 * n) (omega arith) in
    let all = ap true_count (take_all (3 * n + 1) (wire_values now env queue) (omega arith)) in
    let same = ap bit (read now env queue (3 * n) w (omega arith) ew) in
    let v = rw e at (r.value env) in
    omega arith

-- ---- the bits of the number so far, and wires that count for the bits above

pub record Summed (start now : Netlist) (xs word rest : List Wire) : Type 0 where
  pub extends : Extends start now
  pub word_in : AreWires now word
  pub rest_in : AreWires now rest
  pub wide : length xs + 1 ≤ 2 ^ length word * (length rest + 1)
  pub value : (env : ℕ → Bool) → number (wire_values now env word) + 2 ^ length word * true_count (wire_values now env rest) ≡ true_count (wire_values start env xs)

pub Summed-more : (start now next : Netlist) (xs word rest carries : List Wire) (w : Wire) → Summed start now xs word rest → Extends now next → IsWire next w → AreWires next carries → length carries ≡ length rest / 2 →
    ((env : ℕ → Bool) → true_count (wire_values now env rest) ≡ bit (wire_value next env w) + 2 * true_count (wire_values next env carries)) →
    Summed start next xs (word ++ w ∷ []) carries
Summed-more start now next xs word rest carries w r e hw hc l v = record {
  extends = Extends-trans start now next r.extends e;
  word_in = All-push (IsWire next) word w (AreWires-extends now next word e r.word_in) hw;
  rest_in = hc;
  wide =
      let old = r.wide in
      let half : length rest + 1 ≤ 2 * (length carries + 1) = omega arith in
      let more = mul-le-mul_left (2 ^ length word) half in
      rw (length-append word (w ∷ []), pow_more 2 (length word)) (omega arith);
  value = λ env.
      let old = r.value env in
      let here = ap (λ k. 2 ^ length word * k) (v env) in
      let push = number-push (wire_values now env word) (wire_value next env w) in
      rw (map_push (wire_value next env) word w, wire_values-extends now next word env e r.word_in, push, width-values now env word, length-append word (w ∷ []), pow_more 2 (length word)) (omega arith);
}

pub Summed-first : (start next : Netlist) (xs word carries : List Wire) (w : Wire) → word ≡ [] → AreWires start xs → Extends start next → IsWire next w → AreWires next carries → length carries ≡ length xs / 2 →
    ((env : ℕ → Bool) → true_count (wire_values start env xs) ≡ bit (wire_value next env w) + 2 * true_count (wire_values next env carries)) →
    Summed start next xs (word ++ w ∷ []) carries
unfolding number
Summed-first start next xs word carries w z h e hw hc l v = Summed-more start start next xs word xs carries w none e hw hc l v
  where
    none : Summed start start xs word xs
    none = record {
      extends = Extends-refl start;
      word_in = rw z (search rules);
      rest_in = h;
      wide = rw z (omega arith);
      value = λ env. rw z (omega arith);
    }

pub Summed-all : (start now : Netlist) (xs word rest : List Wire) → Summed start now xs word rest → rest ≡ [] → (env : ℕ → Bool) → number (wire_values now env word) ≡ true_count (wire_values start env xs)
Summed-all start now xs word rest r e env = let v = rw e at (r.value env) in omega arith

pub Summed-wide : (start now : Netlist) (xs word rest : List Wire) → Summed start now xs word rest → rest ≡ [] → length xs < 2 ^ length word
Summed-wide start now xs word rest r e = let v = rw e at r.wide in omega arith

-- ---- a word of constants

pub record Written (n : Netlist) (value rest : ℕ) (word : List Wire) (i : ℕ) : Type 0 where
  pub wires : AreWires n word
  pub width : length word ≡ i
  pub value_is : (env : ℕ → Bool) → number (wire_values n env word) + 2 ^ i * rest ≡ value

pub Written-none : (n : Netlist) (value : ℕ) (word : List Wire) → word ≡ [] → Written n value value word 0
unfolding number
Written-none n value word e = record {
  wires = rw e (search rules);
  width = rw e refl;
  value_is = λ env. rw e (omega arith);
}

pub Written-more : (n : Netlist) (value rest : ℕ) (word : List Wire) (w : Wire) (i : ℕ) → Written n value rest word i → IsWire n w → ((env : ℕ → Bool) → wire_value n env w ≡ (rest % 2 == 1)) → Written n value (rest / 2) (word ++ w ∷ []) (i + 1)
Written-more n value rest word w i r h v = record {
  wires = All-push (IsWire n) word w r.wires h;
  width = let p = length-append word (w ∷ []) in let k = r.width in omega arith;
  value_is = λ env.
      let old = r.value_is env in
      let k : length (wire_values n env word) ≡ i = width-values n env word ∙ r.width in
      let push = number-push (wire_values n env word) (wire_value n env w) in
      let low : bit (wire_value n env w) ≡ rest % 2 = ap bit (v env) ∙ bit_odd rest in
      let parts : 2 * (rest / 2) + rest % 2 ≡ rest = omega arith in
      let m = ap (λ p. 2 ^ i * p) parts in
      rw (map_push (wire_value n env) word w, push, k, low, pow_more 2 i) (omega arith);
}

pub Written-all : (n : Netlist) (value rest : ℕ) (word : List Wire) (i : ℕ) → Written n value rest word i → value < 2 ^ i → (env : ℕ → Bool) → number (wire_values n env word) ≡ value
Written-all n value zero word i r l env = let v = r.value_is env in omega arith
Written-all n value (suc rest) word i r l env = let v = r.value_is env in absurd (omega arith)
