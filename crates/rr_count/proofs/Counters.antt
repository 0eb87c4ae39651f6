-- the turns of a counter
use Rattle.std.proofs.Common.{◌≡◌, ◌⊎◌, inl, inr, ℕ, zero, suc, ◌+◌, ◌-◌, ◌<◌, ◌≤◌, nat_lt, Bool, true, false, not, ◌&&◌, ◌||◌, cond, List, [], ◌∷◌, ◌++◌, length, get_or, take, refl, sym, ◌∙◌, ap, arith, rules, length-append}
use Rattle.std.specs.Prelude.{min}
use Rattle.std.proofs.Math.Bool.{not-not}
use Rattle.std.proofs.lemmas.Bool.{cases_lt, lt-ltb, le-ltb}
use Rattle.std.proofs.lemmas.List.{take_all, take_more, map_push, length-map, length-take-le, get_or_past}
use Rattle.std.proofs.lemmas.List.Elements.{All-push, All-get_or}
use Rattle.rr_circuit.specs.declared.Wire.{Wire}
use Rattle.rr_circuit.specs.Values.{Netlist, wire_value, IsWire, Extends, AreWires, wire_values}
use Rattle.rr_circuit.proofs.Netlists.{AreWires-extends, wire_values-extends, Extends-trans, Extends-refl}
use Rattle.rr_count.specs.Counts.{true_count, is_at_most, count_value, value_before, next_count}

-- a list with one more, read anywhere
read_push : (vs : List Bool) (b : Bool) (k : ℕ) → (k < length vs → get_or (vs ++ b ∷ []) k false ≡ get_or vs k false) × (k ≡ length vs → get_or (vs ++ b ∷ []) k false ≡ b)
read_push [] b zero = ((λ h. absurd (omega arith)), (λ e. refl))
read_push [] b (suc k) = ((λ h. absurd (omega arith)), (λ e. absurd (omega arith)))
read_push (v ∷ vs) b zero = ((λ h. refl), (λ e. absurd (omega arith)))
read_push (v ∷ vs) b (suc k) = ((λ h. (read_push vs b k).0 (omega arith)), (λ e. (read_push vs b k).1 (omega arith)))

-- ---- one wire more

pub record Built (start now : Netlist) (counts : List Wire) (old first : ℕ) (x : Wire) (out : List Wire) (number : ℕ) : Type 0 where
  pub extends : Extends start now
  pub wires : AreWires now out
  pub width : first + length out ≡ number
  pub value : (env : ℕ → Bool) (k : ℕ) → first + k < number → get_or (wire_values now env out) k false ≡ next_count (wire_values start env counts) old (wire_value start env x) (first + k)

pub Built-none : (start : Netlist) (counts : List Wire) (old first : ℕ) (x : Wire) (out : List Wire) → out ≡ [] → Built start start counts old first x out first
Built-none start counts old first x out e = record {
  extends = Extends-refl start;
  wires = rw e (search rules);
  width = rw e (omega arith);
  value = λ env k h. absurd (omega arith);
}

pub Built-more : (start now next : Netlist) (counts : List Wire) (old first : ℕ) (x : Wire) (out : List Wire) (w : Wire) (i : ℕ) → Built start now counts old first x out i → Extends now next → IsWire next w → ((env : ℕ → Bool) → wire_value next env w ≡ next_count (wire_values start env counts) old (wire_value start env x) i) → Built start next counts old first x (out ++ w ∷ []) (i + 1)
Built-more start now next counts old first x out w i r e h v = record {
  extends = Extends-trans start now next r.extends e;
  wires = All-push (IsWire next) out w (AreWires-extends now next out e r.wires) h;
  width = let p = length-append out (w ∷ []) in let k = r.width in omega arith;
  value = λ env k l. rw (map_push (wire_value next env) out w, wire_values-extends now next out env e r.wires) (by_cases env k l (cases_lt (first + k) i));
}
  where
    width_is : (env : ℕ → Bool) → first + length (wire_values now env out) ≡ i
    width_is env = let m = length-map out (wire_value now env) in let k = r.width in omega arith

    by_cases : (env : ℕ → Bool) (k : ℕ) → first + k < i + 1 → ((first + k < i) ⊎ (i ≤ first + k)) → get_or (wire_values now env out ++ wire_value next env w ∷ []) k false ≡ next_count (wire_values start env counts) old (wire_value start env x) (first + k)
    by_cases env k l (inl p) = let m = width_is env in (read_push (wire_values now env out) (wire_value next env w) k).0 (omega arith) ∙ r.value env k p
    by_cases env k l (inr p) =
        let m = width_is env in
        let e : i ≡ first + k = omega arith in
        (read_push (wire_values now env out) (wire_value next env w) k).1 (omega arith) ∙ v env ∙ ap (next_count (wire_values start env counts) old (wire_value start env x)) e

-- the bit of a turn in terms of the start
pub built_bit : (start now : Netlist) (env : ℕ → Bool) (counts : List Wire) (old : ℕ) (x : Wire) (i : ℕ) (count before : Bool) → Extends start now → AreWires start counts → IsWire start x →
    count ≡ count_value (wire_values now env counts) old i → before ≡ value_before (wire_values now env counts) old i →
    (count || (wire_value now env x && before)) ≡ next_count (wire_values start env counts) old (wire_value start env x) i
built_bit start now env counts old x i count before e hc hx c b = rw (c, b, wire_values-extends start now counts env e hc, e.values env x hx) refl

-- ---- the counts

pub count-push : (vs : List Bool) (b : Bool) → true_count (vs ++ b ∷ []) ≡ true_count vs + cond b 1 0
count-push [] b = omega arith
count-push (v ∷ vs) b = let h = count-push vs b in rw h (omega arith)

count-le : (vs : List Bool) → true_count vs ≤ length vs
count-le [] = omega arith
count-le (true ∷ vs) = let h = count-le vs in omega arith
count-le (false ∷ vs) = let h = count-le vs in omega arith

or_false : (b : Bool) → (b || false) ≡ b
or_false true = refl
or_false false = refl

or_true : (b : Bool) → (b || true) ≡ true
or_true true = refl
or_true false = refl

count_bit : (vs : List Bool) (first c k : ℕ) (x : Bool) → count_value vs first k ≡ nat_lt k c → ((j : ℕ) → k ≡ suc j → count_value vs first j ≡ nat_lt j c) → next_count vs first x k ≡ nat_lt k (c + cond x 1 0)
count_bit vs first c k false h g =
    let z : c + 0 ≡ c = omega arith in
    rw (z, h) (or_false (nat_lt k c))
count_bit vs first c zero true h g = or_true (count_value vs first 0) ∙ sym (lt-ltb 0 (c + 1) (omega arith))
count_bit vs first c (suc k) true h g = rw (h, g k refl) (by_cases (cases_lt k c))
  where
    by_cases : ((k < c) ⊎ (c ≤ k)) → (nat_lt (suc k) c || nat_lt k c) ≡ nat_lt (suc k) (c + 1)
    by_cases (inl p) = rw (lt-ltb k c p, lt-ltb (suc k) (c + 1) (omega arith)) (or_true (nat_lt (suc k) c))
    by_cases (inr p) = rw (le-ltb k c p, le-ltb (suc k) (c + 1) (omega arith), le-ltb (suc k) c (omega arith)) refl

pub record Counted (start now : Netlist) (xs counts : List Wire) (first bound i : ℕ) : Type 0 where
  pub extends : Extends start now
  pub wires : AreWires now counts
  pub first_is : first ≡ bound - (length xs - i)
  pub value : (env : ℕ → Bool) (k : ℕ) → first ≤ k → k ≤ bound → count_value (wire_values now env counts) first k ≡ nat_lt k (true_count (wire_values start env (take i xs)))

pub Counted-none : (start : Netlist) (xs counts : List Wire) (bound : ℕ) → bound < length xs → counts ≡ [] → Counted start start xs counts 0 bound 0
Counted-none start xs counts bound l e = record {
  extends = Extends-refl start;
  wires = rw e (search rules);
  first_is = omega arith;
  value = λ env k a b. rw e (sym (le-ltb k 0 (omega arith)));
}

pub Counted-more : (start now next : Netlist) (xs counts new : List Wire) (d : Wire) (first from to bound i : ℕ) → Counted start now xs counts first bound i → i < length xs → bound < length xs → AreWires start xs →
    from ≡ bound - (length xs - i - 1) → to ≡ min i bound + 1 → Extends now next → AreWires next new → length new ≡ to - from →
    ((env : ℕ → Bool) (k : ℕ) → from + k < to → get_or (wire_values next env new) k false ≡ next_count (wire_values now env counts) first (wire_value now env (get_or xs i d)) (from + k)) →
    Counted start next xs new from bound (i + 1)
Counted-more start now next xs counts new d first from to bound i r l lb hw f t e h w v = record {
  extends = Extends-trans start now next r.extends e;
  wires = h;
  first_is = omega arith;
  value = λ env k a b. by_cases env k a b (cases_lt k to);
}
  where
    count : (ℕ → Bool) → ℕ
    count env = true_count (wire_values start env (take i xs))

    counts_is : (env : ℕ → Bool) → true_count (wire_values start env (take (i + 1) xs)) ≡ count env + cond (wire_value start env (get_or xs i d)) 1 0
    counts_is env = ap true_count (ap (wire_values start env) (take_more xs i d l) ∙ map_push (wire_value start env) (take i xs) (get_or xs i d)) ∙ count-push (wire_values start env (take i xs)) (wire_value start env (get_or xs i d))

    by_cases : (env : ℕ → Bool) (k : ℕ) → from ≤ k → k ≤ bound → ((k < to) ⊎ (to ≤ k)) → count_value (wire_values next env new) from k ≡ nat_lt k (true_count (wire_values start env (take (i + 1) xs)))
    by_cases env k a b (inl c) =
        let s : from + (k - from) ≡ k = omega arith in
        let same = r.extends.values env (get_or xs i d) (All-get_or (IsWire start) xs i d l hw) in
        let low = r.first_is in
        v env (k - from) (omega arith)
        ∙ ap (next_count (wire_values now env counts) first (wire_value now env (get_or xs i d))) s
        ∙ ap (λ y. next_count (wire_values now env counts) first y k) same
        ∙ count_bit (wire_values now env counts) first (count env) k (wire_value start env (get_or xs i d)) (r.value env k (omega arith) b) (λ j q. r.value env j (omega arith) (omega arith))
        ∙ ap (nat_lt k) (sym (counts_is env))
    by_cases env k a b (inr c) =
        let size = length-map new (wire_value next env) in
        let few = count-le (wire_values start env (take (i + 1) xs)) in
        let taken = length-map (take (i + 1) xs) (wire_value start env) in
        let short = length-take-le (i + 1) xs (omega arith) in
        get_or_past (wire_values next env new) (k - from) false (omega arith) ∙ sym (le-ltb k (true_count (wire_values start env (take (i + 1) xs))) (omega arith))

-- the last count is false exactly where the bound is kept
pub Counted-all : (start now : Netlist) (xs counts : List Wire) (first bound i : ℕ) → Counted start now xs counts first bound i → i ≡ length xs → (env : ℕ → Bool) → count_value (wire_values now env counts) first bound ≡ not (is_at_most bound (wire_values start env xs))
Counted-all start now xs counts first bound i r e env =
    let low = r.first_is in
    r.value env bound (omega arith) (omega arith) ∙ ap (λ ys. nat_lt bound (true_count (wire_values start env ys))) (take_all i xs (omega arith)) ∙ sym (not-not (nat_lt bound (true_count (wire_values start env xs))))

-- a bound that no count exceeds
pub always : (start now : Netlist) (xs : List Wire) (w : Wire) (bound : ℕ) → length xs ≤ bound → ((env : ℕ → Bool) → wire_value now env w ≡ true) → (env : ℕ → Bool) → wire_value now env w ≡ is_at_most bound (wire_values start env xs)
always start now xs w bound l v env =
    let a = count-le (wire_values start env xs) in
    let b = length-map xs (wire_value start env) in
    v env ∙ ap not (sym (le-ltb bound (true_count (wire_values start env xs)) (omega arith)))
