-- lists built wire by wire, and the turns of shifts
use Rattle.std.proofs.Common.{◌≡◌, ◌⊎◌, inl, inr, ℕ, zero, suc, ◌+◌, ◌-◌, ◌*◌, ◌^◌, ◌<◌, ◌≤◌, nat_lt, Bool, true, false, ◌||◌, if◌then◌else◌, List, [], ◌∷◌, ◌++◌, length, get_or, take, drop, refl, sym, ◌∙◌, ap, arith, rules, length-append}
use Rattle.std.proofs.lemmas.Bool.{cases_lt, lt-ltb}
use Rattle.std.proofs.lemmas.Nat.{pow_pos}
use Rattle.std.proofs.lemmas.Grind.{pow_more}
use Rattle.std.proofs.lemmas.List.{take_all, map-append, map_push, length-take-le, get_or-map, get_or_past, get_or_default, length-drop, take-append-drop}
use Rattle.std.proofs.lemmas.List.FromFn.{fill_by_all, map-range_with_len_more}
use Rattle.std.proofs.lemmas.List.Elements.{All-push, All-get_or, All-drop}
use Rattle.rr_circuit.specs.declared.Wire.{Wire}
use Rattle.rr_circuit.specs.Values.{Netlist, wire_value, IsWire, Extends, AreWires, wire_values}
use Rattle.rr_circuit.proofs.Netlists.{AreWires-extends, wire_values-extends, Extends-trans, Extends-refl}
use Rattle.rr_bits.specs.Words.{bit, number, tabulate, shr, sar, top}
use Rattle.rr_bits.proofs.Numbers.{number_append}
use Rattle.rr_bits.proofs.Places.{length_tabulate, get_tabulate, tabulate_same}
use Rattle.rr_arith.specs.Shifts.{shift_filled}
use Rattle.rr_arith.proofs.Ripple.{number-take, width-values}

-- the wires made so far carry the bits that f gives
pub record Filled (start now : Netlist) (f : (ℕ → Bool) → ℕ → Bool) (out : List Wire) (i : ℕ) : Type 0 where
  pub extends : Extends start now
  pub wires : AreWires now out
  pub width : length out ≡ i
  pub value : (env : ℕ → Bool) → wire_values now env out ≡ tabulate i (f env)

pub Filled-none : (start : Netlist) (f : (ℕ → Bool) → ℕ → Bool) (out : List Wire) → out ≡ [] → Filled start start f out 0
unfolding tabulate
Filled-none start f out e = record {
  extends = Extends-refl start;
  wires = rw e (search rules);
  width = rw e refl;
  value = λ env. rw e refl;
}

tabulate_more : (i : ℕ) (f : ℕ → Bool) → tabulate (i + 1) f ≡ tabulate i f ++ f i ∷ []
unfolding tabulate
tabulate_more i f = map-range_with_len_more f 0 i i (omega arith)

pub Filled-more : (start now next : Netlist) (f : (ℕ → Bool) → ℕ → Bool) (out : List Wire) (w : Wire) (i : ℕ) → Filled start now f out i → Extends now next → IsWire next w → ((env : ℕ → Bool) → wire_value next env w ≡ f env i) → Filled start next f (out ++ w ∷ []) (i + 1)
Filled-more start now next f out w i r e h v = record {
  extends = Extends-trans start now next r.extends e;
  wires = All-push (IsWire next) out w (AreWires-extends now next out e r.wires) h;
  width = let p = length-append out (w ∷ []) in let k = r.width in omega arith;
  value = λ env. rw (map_push (wire_value next env) out w, tabulate_more i (f env), wire_values-extends now next out env e r.wires, r.value env, v env) refl;
}

-- ---- a turn of a shift

abbrev pub turned_bit : Netlist → List Wire → Wire → ℕ → Wire → (ℕ → Bool) → ℕ → Bool
turned_bit n xs test by fill env j = get_or (wire_values n env xs) (j + by * bit (wire_value n env test)) (wire_value n env fill)

pub IsWire-read : (n : Netlist) (xs : List Wire) (k : ℕ) (fill : Wire) → AreWires n xs → IsWire n fill → IsWire n (get_or xs k fill)
IsWire-read n xs k fill h l = by_cases (cases_lt k (length xs))
  where
    by_cases : ((k < length xs) ⊎ (length xs ≤ k)) → IsWire n (get_or xs k fill)
    by_cases (inl p) = All-get_or (IsWire n) xs k fill p h
    by_cases (inr p) = rw (get_or_past xs k fill p) l

value-read : (n : Netlist) (env : ℕ → Bool) (xs : List Wire) (k : ℕ) (fill : Wire) → wire_value n env (get_or xs k fill) ≡ get_or (wire_values n env xs) k (wire_value n env fill)
value-read n env xs k fill = by_cases (cases_lt k (length xs))
  where
    by_cases : ((k < length xs) ⊎ (length xs ≤ k)) → wire_value n env (get_or xs k fill) ≡ get_or (wire_values n env xs) k (wire_value n env fill)
    by_cases (inl p) = sym (get_or-map (wire_value n env) xs k fill (wire_value n env fill) p)
    by_cases (inr p) = rw (get_or_past xs k fill p) (sym (get_or_past (wire_values n env xs) k (wire_value n env fill) (let w = width-values n env xs in omega arith)))

picked : (t : Bool) (vs : List Bool) (f : Bool) (by i : ℕ) (y n : Bool) → y ≡ get_or vs (i + by) f → n ≡ get_or vs i f → (if t then y else n) ≡ get_or vs (i + by * bit t) f
picked true vs f by i y n e h = let k : i + by * 1 ≡ i + by = omega arith in rw k e
picked false vs f by i y n e h = let k : i + by * 0 ≡ i = omega arith in rw k h

pub turned : (start now : Netlist) (env : ℕ → Bool) (xs : List Wire) (test from fill d : Wire) (by i : ℕ) → Extends start now → AreWires start xs → IsWire start test → IsWire start fill → i < length xs → from ≡ get_or xs (i + by) fill → (if (wire_value now env test) then (wire_value now env from) else (wire_value now env (get_or xs i d))) ≡ turned_bit start xs test by fill env i
turned start now env xs test from fill d by i e hx ht hf l is =
    let a = e.values env test ht in
    let b = e.values env (get_or xs (i + by) fill) (IsWire-read start xs (i + by) fill hx hf) in
    let c = e.values env (get_or xs i d) (All-get_or (IsWire start) xs i d l hx) in
    let v = ap (wire_value start env) (get_or_default xs i d fill l) ∙ value-read start env xs i fill in
    rw (is, a, b, c) (picked (wire_value start env test) (wire_values start env xs) (wire_value start env fill) by i _ _ (value-read start env xs (i + by) fill) v)

pub Turned-all : (start now : Netlist) (xs out : List Wire) (test fill : Wire) (by i : ℕ) → Filled start now (turned_bit start xs test by fill) out i → i ≡ length xs → (env : ℕ → Bool) → wire_values now env out ≡ shift_filled (wire_values start env xs) (by * bit (wire_value start env test)) (wire_value start env fill)
Turned-all start now xs out test fill by i r e env = r.value env ∙ ap (λ n. tabulate n (turned_bit start xs test by fill env)) (e ∙ sym (width-values start env xs))

-- ---- laws of shifts

pub shift_filled_none : (vs : List Bool) (f : Bool) → shift_filled vs 0 f ≡ vs
unfolding tabulate
shift_filled_none vs f = sym (fill_by_all (λ i. get_or vs (i + 0) f) vs (length vs) f refl (λ i l. ap (λ k. get_or vs k f) (omega arith)))

pub shift_filled_twice : (vs : List Bool) (a b : ℕ) (f : Bool) → shift_filled (shift_filled vs a f) b f ≡ shift_filled vs (a + b) f
shift_filled_twice vs a b f =
    ap (λ n. tabulate n (λ i. get_or (shift_filled vs a f) (i + b) f)) (length_tabulate (length vs) (λ i. get_or vs (i + a) f))
    ∙ tabulate_same (length vs) (λ i. get_or (shift_filled vs a f) (i + b) f) (λ i. get_or vs (i + (a + b)) f) (λ i l. by_cases i (cases_lt (i + b) (length vs)))
  where
    by_cases : (i : ℕ) → ((i + b < length vs) ⊎ (length vs ≤ i + b)) → get_or (shift_filled vs a f) (i + b) f ≡ get_or vs (i + (a + b)) f
    by_cases i (inl p) = get_tabulate (length vs) (i + b) (λ j. get_or vs (j + a) f) f p ∙ ap (λ k. get_or vs k f) (omega arith)
    by_cases i (inr p) = get_or_past (shift_filled vs a f) (i + b) f (let k = length_tabulate (length vs) (λ j. get_or vs (j + a) f) in omega arith) ∙ sym (get_or_past vs (i + (a + b)) f (omega arith))

shift_filled_past : (vs : List Bool) (a b : ℕ) (f : Bool) → length vs ≤ a → length vs ≤ b → shift_filled vs a f ≡ shift_filled vs b f
shift_filled_past vs a b f h l = tabulate_same (length vs) (λ i. get_or vs (i + a) f) (λ i. get_or vs (i + b) f) (λ i k. get_or_past vs (i + a) f (omega arith) ∙ sym (get_or_past vs (i + b) f (omega arith)))

-- a shift by the low part, and then by the width where the high part is not 0
shift_parts : (vs : List Bool) (f t : Bool) (a h p : ℕ) → t ≡ nat_lt 0 h → (0 < h → length vs ≤ p) → shift_filled (shift_filled vs a f) (length vs * bit t) f ≡ shift_filled vs (h * p + a) f
shift_parts vs f t a zero p e l =
    let k : a + length vs * 0 ≡ 0 * p + a = omega arith in
    rw e (shift_filled_twice vs a (length vs * 0) f ∙ ap (λ n. shift_filled vs n f) k)
shift_parts vs f t a (suc h) p e l =
    let m : suc h * p ≡ p + h * p = omega arith in
    let w = l (omega arith) in
    rw (e, lt-ltb 0 (suc h) (omega arith)) (shift_filled_twice vs a (length vs * 1) f ∙ shift_filled_past vs (a + length vs * 1) (suc h * p + a) f (omega arith) (omega arith))

-- ---- a shift by the low bits

pub record Shifted (start now : Netlist) (xs by out : List Wire) (fill : Wire) (step i : ℕ) : Type 0 where
  pub extends : Extends start now
  pub wires : AreWires now out
  pub width : length out ≡ length xs
  pub step_is : step ≡ 2 ^ i
  pub value : (env : ℕ → Bool) → wire_values now env out ≡ shift_filled (wire_values start env xs) (number (wire_values start env (take i by))) (wire_value start env fill)

pub Shifted-none : (start : Netlist) (xs by out : List Wire) (fill : Wire) → AreWires start xs → out ≡ xs → Shifted start start xs by out fill 1 0
unfolding number
Shifted-none start xs by out fill h e = record {
  extends = Extends-refl start;
  wires = rw e h;
  width = ap length e;
  step_is = refl;
  value = λ env. rw e (sym (shift_filled_none (wire_values start env xs) (wire_value start env fill)));
}

pub Shifted-more : (start now next : Netlist) (xs by out slice new : List Wire) (fill d : Wire) (step i : ℕ) → slice ≡ out → Shifted start now xs by out fill step i → i < length by → AreWires start by → IsWire start fill → Extends now next → AreWires next new → length new ≡ length slice → ((env : ℕ → Bool) → wire_values next env new ≡ shift_filled (wire_values now env slice) (step * bit (wire_value now env (get_or by i d))) (wire_value now env fill)) → Shifted start next xs by new fill (step * 2) (i + 1)
Shifted-more start now next xs by out slice new fill d step i is r l hb hf e h w v = record {
  extends = Extends-trans start now next r.extends e;
  wires = h;
  width = w ∙ ap length is ∙ r.width;
  step_is = rw (r.step_is, pow_more 2 i) refl;
  value = λ env.
      let a = r.extends.values env (get_or by i d) (All-get_or (IsWire start) by i d l hb) in
      let f = r.extends.values env fill hf in
      let here = rw (is, a, f, r.value env, r.step_is) at (v env) in
      here ∙ shift_filled_twice _ _ _ _ ∙ rw (number-take start env by i d l) refl;
}

pub Shifted-all : (start now : Netlist) (xs by out : List Wire) (fill : Wire) (step i : ℕ) → Shifted start now xs by out fill step i → i ≡ length by → (env : ℕ → Bool) → wire_values now env out ≡ shift_filled (wire_values start env xs) (number (wire_values start env by)) (wire_value start env fill)
Shifted-all start now xs by out fill step i r e env = rw (take_all i by (omega arith)) at (r.value env)

-- ---- whether some wire is true

pub record Any (start now : Netlist) (xs : List Wire) (w : Wire) (i : ℕ) : Type 0 where
  pub extends : Extends start now
  pub wire : IsWire now w
  pub value : (env : ℕ → Bool) → wire_value now env w ≡ nat_lt 0 (number (wire_values start env (take i xs)))

pub Any-none : (start : Netlist) (xs : List Wire) (w : Wire) → IsWire start w → ((env : ℕ → Bool) → wire_value start env w ≡ false) → Any start start xs w 0
unfolding number
Any-none start xs w h v = record { extends = Extends-refl start; wire = h; value = v }

any_bit : (a p : ℕ) (t b : Bool) → 0 < p → t ≡ nat_lt 0 a → (t || b) ≡ nat_lt 0 (a + p * bit b)
any_bit a p true true h e = sym (lt-ltb 0 (a + p * 1) (omega arith))
any_bit a p false true h e = sym (lt-ltb 0 (a + p * 1) (omega arith))
any_bit a p true false h e = let k : a + p * 0 ≡ a = omega arith in rw k e
any_bit a p false false h e = let k : a + p * 0 ≡ a = omega arith in rw k e

pub Any-more : (start now next : Netlist) (xs : List Wire) (w v d : Wire) (i : ℕ) → Any start now xs w i → i < length xs → AreWires start xs → Extends now next → IsWire next v → ((env : ℕ → Bool) → wire_value next env v ≡ (wire_value now env w || wire_value now env (get_or xs i d))) → Any start next xs v (i + 1)
Any-more start now next xs w v d i r l hx e h t = record {
  extends = Extends-trans start now next r.extends e;
  wire = h;
  value = λ env.
      let same = r.extends.values env (get_or xs i d) (All-get_or (IsWire start) xs i d l hx) in
      let here = rw same at (t env) in
      here ∙ rw (number-take start env xs i d l) (any_bit _ (2 ^ i) _ _ (pow_pos i) (r.value env));
}

pub Any-all : (start now : Netlist) (xs : List Wire) (w : Wire) (i : ℕ) → Any start now xs w i → i ≡ length xs → (env : ℕ → Bool) → wire_value now env w ≡ nat_lt 0 (number (wire_values start env xs))
Any-all start now xs w i r e env = rw (take_all i xs (omega arith)) at (r.value env)

-- ---- the whole shift

no_number : (n : Netlist) (env : ℕ → Bool) (ws : List Wire) → length ws ≡ 0 → number (wire_values n env ws) ≡ 0
unfolding number
no_number n env [] e = refl
no_number n env (w ∷ ws) e = cc

pub Shift-all : (start middle late now : Netlist) (xs by rest moved slice out : List Wire) (past fill : Wire) (low : ℕ) → slice ≡ moved → rest ≡ take (length by - low) (drop low by) → low ≤ length by → (low < length by → length xs ≤ 2 ^ low) → AreWires start by → IsWire start fill → Extends start middle → Extends middle late → AreWires middle moved
    → ((env : ℕ → Bool) → wire_values middle env moved ≡ shift_filled (wire_values start env xs) (number (wire_values start env (take low by))) (wire_value start env fill))
    → ((env : ℕ → Bool) → wire_value late env past ≡ nat_lt 0 (number (wire_values middle env rest)))
    → ((env : ℕ → Bool) → wire_values now env out ≡ shift_filled (wire_values late env slice) (length xs * bit (wire_value late env past)) (wire_value late env fill))
    → (env : ℕ → Bool) → wire_values now env out ≡ shift_filled (wire_values start env xs) (number (wire_values start env by)) (wire_value start env fill)
Shift-all start middle late now xs by rest moved slice out past fill low is are l enough hb hf e g hm v p t env =
    let same = wire_values-extends middle late moved env g hm in
    let f = g.values env fill (e.wires fill hf) ∙ e.values env fill hf in
    let here = rw (is, same, f, v env) at (t env) in
    here ∙ joined ∙ ap (λ n. shift_filled (wire_values start env xs) n (wire_value start env fill)) (sym parts)
  where
    high : wire_value late env past ≡ nat_lt 0 (number (wire_values start env (drop low by)))
    high =
        let whole : take (length by - low) (drop low by) ≡ drop low by = take_all (length by - low) (drop low by) (let m = length-drop low by in omega arith) in
        p env ∙ ap (λ ws. nat_lt 0 (number (wire_values middle env ws))) (are ∙ whole) ∙ ap (λ bs. nat_lt 0 (number bs)) (wire_values-extends start middle (drop low by) env e (All-drop (IsWire start) low by hb))

    by_cases : ((low < length by) ⊎ (length by ≤ low)) → 0 < number (wire_values start env (drop low by)) → length (wire_values start env xs) ≤ 2 ^ low
    by_cases (inl q) h = rw (width-values start env xs) (enough q)
    by_cases (inr q) h = absurd (let k = no_number start env (drop low by) (let m = length-drop low by in omega arith) in omega arith)

    joined : shift_filled (shift_filled (wire_values start env xs) (number (wire_values start env (take low by))) (wire_value start env fill)) (length xs * bit (wire_value late env past)) (wire_value start env fill) ≡ shift_filled (wire_values start env xs) (number (wire_values start env (drop low by)) * 2 ^ low + number (wire_values start env (take low by))) (wire_value start env fill)
    joined =
        ap (λ n. shift_filled (shift_filled (wire_values start env xs) (number (wire_values start env (take low by))) (wire_value start env fill)) (n * bit (wire_value late env past)) (wire_value start env fill)) (sym (width-values start env xs))
        ∙ shift_parts (wire_values start env xs) (wire_value start env fill) (wire_value late env past) _ _ (2 ^ low) high (by_cases (cases_lt low (length by)))

    parts : number (wire_values start env by) ≡ number (wire_values start env (drop low by)) * 2 ^ low + number (wire_values start env (take low by))
    parts =
        let k : length (wire_values start env (take low by)) ≡ low = width-values start env (take low by) ∙ length-take-le low by l in
        ap (λ ws. number (wire_values start env ws)) (sym (take-append-drop low by)) ∙ ap number (map-append (wire_value start env) (take low by) (drop low by)) ∙ number_append (wire_values start env (take low by)) (wire_values start env (drop low by)) ∙ rw k refl

-- the shifts with 0 and with the top bit from above
pub logical : (vs us : List Bool) (by : ℕ) (f : Bool) → us ≡ shift_filled vs by f → f ≡ false → us ≡ shr vs by
logical vs us by f e h = e ∙ ap (λ g. shift_filled vs by g) h

pub arithmetic : (vs us : List Bool) (by : ℕ) (f : Bool) → us ≡ shift_filled vs by f → f ≡ top vs → us ≡ sar vs by
arithmetic vs us by f e h = e ∙ ap (λ g. shift_filled vs by g) h
