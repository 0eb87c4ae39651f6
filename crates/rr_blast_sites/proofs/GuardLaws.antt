-- conditions by the bits of their guards
use Rattle.std.proofs.Common.{◌≡◌, ℕ, zero, suc, ◌+◌, ◌-◌, ◌^◌, ◌<◌, ◌≤◌, ◌⊎◌, inl, inr, ◌==◌, min, nat_lt, Bool, false, not, ◌&&◌, ◌||◌, if◌then◌else◌, List, [], length, get_or, take, drop, Option, refl, sym, ◌∙◌, ap, ap₂, arith, length-drop}
use Rattle.std.proofs.lemmas.Bool.{cases_eq, eq-eqb, ne_eqb, cases_lt, lt-ltb, le-ltb}
use Rattle.std.proofs.lemmas.List.{length-map, get_or-map, get_or-take, get_or_past, length-take-le, take_all, take-map, drop-map}
use Rattle.std.proofs.lemmas.List.Elements.{All-take, All-get_or}
use Rattle.std.proofs.lemmas.List.FromFn.{fill_by_all}
use Rattle.std.proofs.Math.Pow.{pow_mono}
use denote.Ref.{Bor}
use Rattle.rr_circuit.specs.declared.Wire.{Wire}
use Rattle.rr_circuit.specs.Values.{Netlist, wire_value, IsWire, Extends, AreWires, wire_values}
use Rattle.rr_circuit.proofs.Netlists.{Extends-trans, wire_values-extends}
use Rattle.rr_bits.specs.Words.{number, word, tabulate, extend, is_zero, top}
use Rattle.rr_bits.proofs.Numbers.{number-lt, number_small, word_number}
use Rattle.rr_bits.proofs.Places.{length_tabulate, word_tabulated, get_word, has_above, has}
use Rattle.rr_expr.specs.declared.types.Bit.{Bit}
use Rattle.rr_expr.specs.declared.types.Entity.{Entity}
use Rattle.rr_expr.specs.declared.types.Entity.TheVariants.{Constant, Signal, Memory, Instance}
use Rattle.rr_expr.specs.Scopes.{Names, meant, entity_shape, entity_value, range_width}
use Rattle.rr_expr.specs.Values.{form, value}
use Rattle.rr_arith.proofs.Ripple.{width-values}
use Rattle.rr_choice.specs.Choices.{name_width}
use Rattle.rr_instance_laws.specs.Truth.{name_truth, guard_truth}
use Rattle.rr_syntax.specs.View.{texts}
use Rattle.rr_blast_sites.specs.declared.inputs.Inputs.{Inputs}
use Rattle.rr_word_gates.specs.Carried.{CarriesBit}
use Rattle.rr_blast_sites.specs.Signals.{signal_values}
use Rattle.rr_blast_sites.specs.Finding.{changed, guarded_by, name_place}
use Rattle.rr_blast_sites.specs.Instances.{World, Reads, place_of, env_in}
use Rattle.rr_word_gates.proofs.Carrying.{CarriesBit-same, CarriesBit-extends, tabulated, value-read}
use Rattle.rr_word_gates.proofs.WordLaws.{number_zeros}
use Rattle.rr_blast_sites.proofs.GrowthLaws.{Reads-extends}

-- whether a word writes a number

pub number_is : (n m : Netlist) (xs : List Wire) (bits : List Bool) (k : ℕ) (w : Wire) → number bits ≡ k → CarriesBit m w (λ input. number (wire_values n input xs) == number bits) → CarriesBit m w (λ input. number (wire_values n input xs) == k)
number_is n m xs bits k w e h = CarriesBit-same m w (λ input. number (wire_values n input xs) == number bits) (λ input. number (wire_values n input xs) == k) h (λ input. ap (λ j. number (wire_values n input xs) == j) e)

pub number_never : (n : Netlist) (xs : List Wire) (bits : List Bool) (k : ℕ) (w : Wire) → bits ≡ word (length xs) k → (number bits ≡ k → ⊥) → IsWire n w → ((input : ℕ → Bool) → wire_value n input w ≡ false) → CarriesBit n w (λ input. number (wire_values n input xs) == k)
number_never n xs bits k w e h iw v = record {
  wire = iw;
  value = λ input. v input ∙ sym (ne_eqb (number (wire_values n input xs)) k (λ q. h (fits input q)));
}
  where
    fits : (input : ℕ → Bool) → number (wire_values n input xs) ≡ k → number bits ≡ k
    fits input q =
        let l = number-lt (wire_values n input xs) in
        let w = width-values n input xs in
        let small : k < 2 ^ length xs = rw w at (rw q at l) in
        ap number e ∙ number_small (length xs) k small

-- bits by themselves, negated, and chosen by a number

pub itself : (n : Netlist) (w : Wire) → IsWire n w → CarriesBit n w (λ input. wire_value n input w)
itself n w h = record { wire = h; value = λ input. refl }

pub negation : (n : Netlist) (x w : Wire) (f : (ℕ → Bool) → Bool) → CarriesBit n x f → IsWire n w → ((input : ℕ → Bool) → wire_value n input w ≡ not (wire_value n input x)) → CarriesBit n w (λ input. not (f input))
negation n x w f h iw v = record { wire = iw; value = λ input. v input ∙ ap not (h.value input) }

pub chosen-carried : (start n m : Netlist) (bits : List Wire) (then_wire else_wire w : Wire) (f g : (ℕ → Bool) → Bool) (k : ℕ) → Extends start n → AreWires start bits → CarriesBit n then_wire f → CarriesBit n else_wire g
    → CarriesBit m w (λ input. (if (number (wire_values n input bits) == k) then (wire_value n input then_wire) else (wire_value n input else_wire))) → CarriesBit m w (λ input. (if (number (wire_values start input bits) == k) then (f input) else (g input)))
chosen-carried start n m bits then_wire else_wire w f g k x hb hy hn c = CarriesBit-same m w (λ input. (if (number (wire_values n input bits) == k) then (wire_value n input then_wire) else (wire_value n input else_wire))) (λ input. (if (number (wire_values start input bits) == k) then (f input) else (g input))) c
    (λ input.
    ap (λ vs. if (number vs == k) then (wire_value n input then_wire) else (wire_value n input else_wire)) (wire_values-extends start n bits input x hb)
    ∙ ap₂ (λ a b. if (number (wire_values start input bits) == k) then a else b) (hy.value input) (hn.value input))

pub guard_min : (f : ℕ) (e s : Bool) → guard_truth (min f 4) e s ≡ (if (f == 0) then (not e) else (if (f == 1) then (e && s) else (if (f == 2) then (e && not s) else (if (f == 3) then (e || s) else (e || not s)))))
guard_min zero e s = refl
guard_min (suc zero) e s = refl
guard_min (suc (suc zero)) e s = refl
guard_min (suc (suc (suc zero))) e s = refl
guard_min (suc (suc (suc (suc n)))) e s =
    let m : min (suc (suc (suc (suc n)))) 4 ≡ 4 = omega arith in
    rw (m, ne_eqb (suc (suc (suc (suc n)))) 0 (λ q. omega arith), ne_eqb (suc (suc (suc (suc n)))) 1 (λ q. omega arith), ne_eqb (suc (suc (suc (suc n)))) 2 (λ q. omega arith), ne_eqb (suc (suc (suc (suc n)))) 3 (λ q. omega arith)) refl

-- the truth of a name

first_bits : (vs : List Bool) (k : ℕ) → k ≤ length vs → take k vs ≡ tabulate k (λ i. get_or vs i false)
unfolding tabulate
first_bits vs k l = fill_by_all (λ i. get_or vs i false) (take k vs) k false (length-take-le k vs l) (λ i m. get_or-take k vs i false m)

pub has_number : (vs : List Bool) (i : ℕ) → has (number vs) i ≡ get_or vs i false
has_number vs i = by_cases (cases_lt i (length vs))
  where
    by_cases : ((i < length vs) ⊎ (length vs ≤ i)) → has (number vs) i ≡ get_or vs i false
    by_cases (inl l) = sym (get_word (length vs) (number vs) i false l) ∙ ap (λ xs. get_or xs i false) (word_number vs)
    by_cases (inr l) = has_above (number vs) (length vs) i (number-lt vs) l ∙ sym (get_or_past vs i false l)

number_wide : (vs : List Bool) (w : ℕ) → length vs ≤ w → number (tabulate w (λ i. get_or vs i false)) ≡ number vs
number_wide vs w l =
    let small : number vs < 2 ^ w = let a = number-lt vs in let b : 2 ^ length vs ≤ 2 ^ w = pow_grows (length vs) w l in omega arith in
    ap number (sym (word_tabulated w (number vs) (λ i. get_or vs i false) (λ i m. has_number vs i))) ∙ number_small w (number vs) small
  where
    pow_grows : (a b : ℕ) → a ≤ b → 2 ^ a ≤ 2 ^ b
    pow_grows a b h = pow_mono h

number_first : (vs : List Bool) (w : ℕ) → number (take (min w (length vs)) vs) ≡ number (tabulate w (λ i. get_or vs i false))
number_first vs w = by_cases (cases_lt w (length vs))
  where
    by_cases : ((w < length vs) ⊎ (length vs ≤ w)) → number (take (min w (length vs)) vs) ≡ number (tabulate w (λ i. get_or vs i false))
    by_cases (inl l) = let m : min w (length vs) ≡ w = omega arith in rw m (ap number (first_bits vs w (omega arith)))
    by_cases (inr l) = let m : min w (length vs) ≡ length vs = omega arith in rw m (ap number (take_all (length vs) vs (omega arith)) ∙ sym (number_wide vs w l))

truth_entity : (s : Names) (env : Bit → Bool) (name : List ℕ) (e : Entity) → e ≡ meant s name → name_truth s env name ≡ not (is_zero (entity_value env e))
unfolding value form
truth_entity s env name e is = ap (λ k. not (is_zero (extend (entity_shape k).width (entity_shape k).signed (entity_value env k)))) (sym is) ∙ whole e
  where
    whole : (e : Entity) → not (is_zero (extend (entity_shape e).width (entity_shape e).signed (entity_value env e))) ≡ not (is_zero (entity_value env e))
    whole (Constant bits signed) = ap (λ xs. not (is_zero xs)) (tabulated bits (signed && top bits))
    whole (Signal id range signed) =
        let xs = tabulate (range_width range) (λ i. env (record { signal = id; place = i })) in
        ap (λ k. not (is_zero (extend k signed xs))) (sym (length_tabulate (range_width range) (λ i. env (record { signal = id; place = i })))) ∙ ap (λ ys. not (is_zero ys)) (tabulated xs (signed && top xs))
    whole (Memory first low words range signed) =
        let xs = tabulate (range_width range) (λ i. false) in
        ap (λ k. not (is_zero (extend k signed xs))) (sym (length_tabulate (range_width range) (λ i. false))) ∙ ap (λ ys. not (is_zero ys)) (tabulated xs (signed && top xs))
    whole Instance = ap (λ xs. not (is_zero xs)) (tabulated [] (false && top []))

pub constant_truth : (i : Inputs) (n : Netlist) (W : World) (name : List ℕ) (bits : List Bool) (signed : Bool) (w : Wire) (e : Entity) → e ≡ meant i.scope.now name → e ≡ Constant bits signed → IsWire n w → ((input : ℕ → Bool) → wire_value n input w ≡ not (is_zero bits)) → CarriesBit n w (λ input. name_truth i.scope.now (env_in (place_of i W) input) name)
constant_truth i n W name bits signed w e is k h v = record { wire = h; value = λ input. v input ∙ sym (truth_entity i.scope.now (env_in (place_of i W) input) name (Constant bits signed) (sym k ∙ is)) }

pub instance_truth : (i : Inputs) (n : Netlist) (W : World) (name : List ℕ) (w : Wire) (e : Entity) → e ≡ meant i.scope.now name → e ≡ Instance → IsWire n w → ((input : ℕ → Bool) → wire_value n input w ≡ false) → CarriesBit n w (λ input. name_truth i.scope.now (env_in (place_of i W) input) name)
unfolding number
instance_truth i n W name w e is k h v = record { wire = h; value = λ input. v input ∙ sym (truth_entity i.scope.now (env_in (place_of i W) input) name Instance (sym k ∙ is)) }

-- of itself a memory is never read
pub memory_truth : (i : Inputs) (n : Netlist) (W : World) (name : List ℕ) (first low words : ℕ) (range : Option (ℕ × ℕ)) (signed : Bool) (w : Wire) (e : Entity) → e ≡ meant i.scope.now name → e ≡ Memory first low words range signed → IsWire n w → ((input : ℕ → Bool) → wire_value n input w ≡ false) → CarriesBit n w (λ input. name_truth i.scope.now (env_in (place_of i W) input) name)
memory_truth i n W name first low words range signed w e is k h v = record {
  wire = h;
  value = λ input. v input
      ∙ sym (truth_entity i.scope.now (env_in (place_of i W) input) name (Memory first low words range signed) (sym k ∙ is) ∙ ap (λ m. not (m == 0)) (number_zeros (range_width range) (tabulate (range_width range) (λ i. false)) refl));
}

pub signal_truth : (i : Inputs) (n m : Netlist) (W : World) (name : List ℕ) (id : ℕ) (range : Option (ℕ × ℕ)) (signed : Bool) (ws us : List Wire) (w : Wire) (e : Entity) (count : ℕ) → e ≡ meant i.scope.now name → e ≡ Signal id range signed → Reads n i W
    → ((input : ℕ → Bool) → wire_values n input ws ≡ get_or (signal_values n input i.signals.now) id []) → count ≡ min (range_width range) (length ws) → us ≡ take count ws
    → CarriesBit m w (λ input. not (is_zero (wire_values n input us))) → CarriesBit m w (λ input. name_truth i.scope.now (env_in (place_of i W) input) name)
signal_truth i n m W name id range signed ws us w e count is k r vs c u h = CarriesBit-same m w (λ input. not (is_zero (wire_values n input us))) (λ input. name_truth i.scope.now (env_in (place_of i W) input) name) h
    (λ input.
    let bits : List Bool = get_or (W.signals input) id [] in
    let all : wire_values n input ws ≡ bits = vs input ∙ ap (λ v. get_or v id []) (r.signals input) in
    let few : count ≡ min (range_width range) (length bits) = c ∙ ap (min (range_width range)) (sym (width-values n input ws) ∙ ap length all) in
    ap (λ z. not (is_zero (wire_values n input z))) u
    ∙ ap (λ z. not (is_zero z)) (sym (take-map (wire_value n input) count ws) ∙ ap₂ take few all)
    ∙ ap (λ k. not (k == 0)) (number_first bits (range_width range))
    ∙ sym (truth_entity i.scope.now (env_in (place_of i W) input) name (Signal id range signed) (sym k ∙ is)))

-- the name that bits choose

pub name_more : (T : ℕ → Bool) (num i : ℕ) (last : Bool) → (if (num == i) then (T i) else (if (nat_lt num i) then (T num) else last)) ≡ (if (nat_lt num (i + 1)) then (T num) else last)
name_more T num i last = by_cases (cases_eq num i)
  where
    by_cases : ((num ≡ i) ⊎ (num ≡ i → ⊥)) → (if (num == i) then (T i) else (if (nat_lt num i) then (T num) else last)) ≡ (if (nat_lt num (i + 1)) then (T num) else last)
    by_cases (inl e) = rw (eq-eqb num i e, lt-ltb num (i + 1) (omega arith)) (ap T (sym e))
    by_cases (inr e) = rw (ne_eqb num i e) (below (cases_lt num i))
      where
        below : ((num < i) ⊎ (i ≤ num)) → (if (nat_lt num i) then (T num) else last) ≡ (if (nat_lt num (i + 1)) then (T num) else last)
        below (inl l) = rw (lt-ltb num i l, lt-ltb num (i + 1) (omega arith)) refl
        below (inr l) = rw (le-ltb num i l, le-ltb num (i + 1) (omega arith)) refl

name_all : (T : ℕ → Bool) (num last : ℕ) → (if (nat_lt num last) then (T num) else (T last)) ≡ T (min num last)
name_all T num last = by_cases (cases_lt num last)
  where
    by_cases : ((num < last) ⊎ (last ≤ num)) → (if (nat_lt num last) then (T num) else (T last)) ≡ T (min num last)
    by_cases (inl l) = rw (lt-ltb num last l) (ap T (omega arith))
    by_cases (inr l) = rw (le-ltb num last l) (ap T (omega arith))

abbrev pub truth_at : Inputs → World → List (Bor (List ℕ)) → (ℕ → Bool) → ℕ → Bool
truth_at i W names input k = name_truth i.scope.now (env_in (place_of i W) input) (get_or (texts names) k [])

pub record Named (i : Inputs) (start now : Netlist) (names : List (Bor (List ℕ))) (bits : List Wire) (name : Wire) (last k : ℕ) : Type 0 where
  pub extends : Extends start now
  pub wire : IsWire now name
  pub value : (W : World) → Reads start i W → CarriesBit now name (λ input. (if (nat_lt (number (wire_values start input bits)) k) then (truth_at i W names input (number (wire_values start input bits))) else (truth_at i W names input last)))

text_at : (names : List (Bor (List ℕ))) (k : ℕ) (d : Bor (List ℕ)) → k < length names → (get_or names k d).now ≡ get_or (texts names) k []
text_at names k d l = sym (get_or-map (λ (n : Bor (List ℕ)). n.now) names k d [] l)

pub Named-none : (i : Inputs) (start now : Netlist) (names : List (Bor (List ℕ))) (bits : List Wire) (name : Wire) (last : ℕ) (d : Bor (List ℕ)) → last < length names → Extends start now → IsWire now name
    → ((W : World) → Reads start i W → CarriesBit now name (λ input. name_truth i.scope.now (env_in (place_of i W) input) (get_or names last d).now)) → Named i start now names bits name last 0
Named-none i start now names bits name last d l x h f = record {
  extends = x;
  wire = h;
  value = λ W r. CarriesBit-same now name (λ input. name_truth i.scope.now (env_in (place_of i W) input) (get_or names last d).now) (λ input. (if (nat_lt (number (wire_values start input bits)) 0) then (truth_at i W names input (number (wire_values start input bits))) else (truth_at i W names input last))) (f W r)
      (λ input. ap (name_truth i.scope.now (env_in (place_of i W) input)) (text_at names last d l) ∙ sym (ap (λ (b : Bool). if b then (truth_at i W names input (number (wire_values start input bits))) else (truth_at i W names input last)) (le-ltb (number (wire_values start input bits)) 0 (omega arith))));
}

pub Named-more : (i : Inputs) (start now near next : Netlist) (names : List (Bor (List ℕ))) (bits : List Wire) (name other new : Wire) (last k : ℕ) (d : Bor (List ℕ)) → Named i start now names bits name last k → k < length names → AreWires start bits → Extends now near → Extends near next
    → ((W : World) → Reads now i W → CarriesBit near other (λ input. name_truth i.scope.now (env_in (place_of i W) input) (get_or names k d).now))
    → CarriesBit next new (λ input. (if (number (wire_values near input bits) == k) then (wire_value near input other) else (wire_value near input name))) → Named i start next names bits new last (k + 1)
Named-more i start now near next names bits name other new last k d h l hb x y f c = record {
  extends = Extends-trans start now next h.extends (Extends-trans now near next x y);
  wire = c.wire;
  value = λ W r.
      let num : (ℕ → Bool) → ℕ = λ input. number (wire_values start input bits) in
      CarriesBit-same next new
      (λ input. (if (num input == k) then (name_truth i.scope.now (env_in (place_of i W) input) (get_or names k d).now) else (if (nat_lt (num input) k) then (truth_at i W names input (num input)) else (truth_at i W names input last))))
      (λ input. (if (nat_lt (num input) (k + 1)) then (truth_at i W names input (num input)) else (truth_at i W names input last)))
      (chosen-carried start near next bits other name new (λ input. name_truth i.scope.now (env_in (place_of i W) input) (get_or names k d).now) (λ input. (if (nat_lt (num input) k) then (truth_at i W names input (num input)) else (truth_at i W names input last))) k (Extends-trans start now near h.extends x) hb
      (f W (Reads-extends start now i W h.extends r)) (CarriesBit-extends now near name (λ input. (if (nat_lt (num input) k) then (truth_at i W names input (num input)) else (truth_at i W names input last))) x (h.value W r)) c)
      (λ input.
      ap (λ t. if (num input == k) then (name_truth i.scope.now (env_in (place_of i W) input) t) else (if (nat_lt (num input) k) then (truth_at i W names input (num input)) else (truth_at i W names input last))) (text_at names k d l)
      ∙ name_more (truth_at i W names input) (num input) k (truth_at i W names input last));
}

pub Named-all : (i : Inputs) (start now : Netlist) (names : List (Bor (List ℕ))) (bits : List Wire) (name : Wire) (last k : ℕ) → Named i start now names bits name last k → k ≡ last → last ≡ length names - 1
    → (W : World) → Reads start i W → CarriesBit now name (λ input. name_truth i.scope.now (env_in (place_of i W) input) (get_or (texts names) (name_place (length names) (wire_values start input bits)) []))
Named-all i start now names bits name last k h e f W r = CarriesBit-same now name (λ input. (if (nat_lt (number (wire_values start input bits)) k) then (truth_at i W names input (number (wire_values start input bits))) else (truth_at i W names input last))) (λ input. truth_at i W names input (name_place (length names) (wire_values start input bits))) (h.value W r)
    (λ input.
    ap (λ j. if (nat_lt (number (wire_values start input bits)) j) then (truth_at i W names input (number (wire_values start input bits))) else (truth_at i W names input last)) e
    ∙ name_all (truth_at i W names input) (number (wire_values start input bits)) last
    ∙ ap (λ j. truth_at i W names input (min (number (wire_values start input bits)) j)) f)

-- all after a place
pub rest_whole : (xs : List Wire) (k : ℕ) → take (length xs - k) (drop k xs) ≡ drop k xs
rest_whole xs k = take_all (length xs - k) (drop k xs) (let l = length-drop k xs in omega arith)

-- a condition in the form and with the name that bits write

pub changed-carried : (i : Inputs) (start n m : Netlist) (W : World) (names : List (Bor (List ℕ))) (bits place : List Wire) (e s w : Wire) → (length names ≡ 0 → ⊥) → place ≡ take (name_width (length names)) (drop 3 bits) → Extends start n → AreWires start bits → IsWire start e
    → CarriesBit n s (λ input. name_truth i.scope.now (env_in (place_of i W) input) (get_or (texts names) (name_place (length names) (wire_values start input place)) []))
    → CarriesBit m w (λ input. guard_truth (min (number (wire_values n input (take 3 bits))) 4) (wire_value n input e) (wire_value n input s))
    → CarriesBit m w (λ input. changed (texts names) (wire_values start input bits) (wire_value start input e) (name_truth i.scope.now (env_in (place_of i W) input)))
changed-carried i start n m W names bits place e s w some p x hb he cs c = record {
  wire = c.wire;
  value = λ input.
      let T : List ℕ → Bool = name_truth i.scope.now (env_in (place_of i W) input) in
      let vs : List Bool = wire_values start input bits in
      let count : length (texts names) ≡ length names = length-map names (λ (k : Bor (List ℕ)). k.now) in
      let few : AreWires start (take 3 bits) = All-take (IsWire start) 3 bits hb in
      let form : wire_values n input (take 3 bits) ≡ take 3 vs = wire_values-extends start n (take 3 bits) input x few ∙ sym (take-map (wire_value start input) 3 bits) in
      let part : wire_values start input place ≡ take (name_width (length names)) (drop 3 vs) =
      ap (wire_values start input) p ∙ sym (take-map (wire_value start input) (name_width (length names)) (drop 3 bits)) ∙ ap (take (name_width (length names))) (sym (drop-map (wire_value start input) 3 bits)) in
      c.value input
      ∙ ap₂ (λ a b. guard_truth (min (number a) 4) b (wire_value n input s)) form (x.values input e he)
      ∙ ap (guard_truth (min (number (take 3 vs)) 4) (wire_value start input e)) (cs.value input ∙ ap (λ z. T (get_or (texts names) (name_place (length names) z) [])) part)
      ∙ sym (ap (λ j. if (j == 0) then (not (wire_value start input e)) else (guard_truth (min (number (take 3 vs)) 4) (wire_value start input e) (T (get_or (texts names) (name_place j (take (name_width j) (drop 3 vs))) [])))) count
      ∙ ap (λ (b : Bool). if b then (not (wire_value start input e)) else (guard_truth (min (number (take 3 vs)) 4) (wire_value start input e) (T (get_or (texts names) (name_place (length names) (take (name_width (length names)) (drop 3 vs))) [])))) (ne_eqb (length names) 0 some));
}

pub guarded-carried : (i : Inputs) (start n m : Netlist) (W : World) (names : List (Bor (List ℕ))) (bits rest : List Wire) (e new w d : Wire) → rest ≡ drop 1 bits → 0 < length bits → Extends start n → AreWires start bits → IsWire start e
    → CarriesBit n new (λ input. changed (texts names) (wire_values start input rest) (wire_value start input e) (name_truth i.scope.now (env_in (place_of i W) input)))
    → IsWire m w → ((input : ℕ → Bool) → wire_value m input w ≡ (if (wire_value n input (get_or bits 0 d)) then (wire_value n input new) else (wire_value n input e)))
    → CarriesBit m w (λ input. guarded_by (texts names) (wire_values start input bits) (wire_value start input e) (name_truth i.scope.now (env_in (place_of i W) input)))
guarded-carried i start n m W names bits rest e new w d r l x hb he cn iw v = record {
  wire = iw;
  value = λ input.
      let vs : List Bool = wire_values start input bits in
      let switch : wire_value n input (get_or bits 0 d) ≡ get_or vs 0 false = x.values input (get_or bits 0 d) (All-get_or (IsWire start) bits 0 d l hb) ∙ value-read start input bits 0 d l in
      let after : wire_values start input rest ≡ drop 1 vs = ap (wire_values start input) r ∙ sym (drop-map (wire_value start input) 1 bits) in
      v input
      ∙ ap (λ (b : Bool). if b then (wire_value n input new) else (wire_value n input e)) switch
      ∙ ap₂ (λ a b. if (get_or vs 0 false) then a else b) (cn.value input ∙ ap (λ z. changed (texts names) z (wire_value start input e) (name_truth i.scope.now (env_in (place_of i W) input))) after) (x.values input e he);
}
