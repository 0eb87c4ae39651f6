-- what stands before the first step of a cycle
use Rattle.std.proofs.Common.{◌≡◌, ◌∙◌, sym, ap, ap₂, refl, ℕ, zero, suc, ◌+◌, ◌-◌, ◌<◌, ◌≤◌, Bool, true, false, cond, not, ◌&&◌, ◌||◌, List, [], ◌∷◌, ◌++◌, length, map, take, drop, get_or, nat_eq, nat_lt, arith, Option, ◌⊎◌, inl, inr, All}
use Rattle.std.specs.List.{range_with_len}
use mathlib.Core.Path.{fun_ext}
use Rattle.std.proofs.lemmas.Bool.{cases_eq, cases_lt, eq-eqb, ne_eqb, lt-ltb, le-ltb}
use Rattle.std.proofs.lemmas.List.{get_or_past, get_or-take, length-map}
use Rattle.std.proofs.lemmas.List.Elements.{All-append, All-head, All-tail, All-map}
use Rattle.std.proofs.lemmas.List.FromFn.{get_or-range_with_len, length-range_with_len}
use Rattle.rr_bits.specs.Words.{number, word}
use Rattle.rr_bits.proofs.Numbers.{number-lt, word_number}
use Rattle.rr_bits.proofs.Places.{get_word, has, has_above}
use Rattle.rr_expr.specs.declared.types.Bit.{Bit}
use Rattle.rr_flat.specs.Signals.{Signal, signal_at, no_signal}
use Rattle.rr_flat.specs.View.{plain_signal}
use Rattle.rr_flat.specs.Plain.{Flat}
use Rattle.rr_flat.specs.Targets.{same_bit}
use Rattle.rr_flat.specs.View.{Design, plain_flat}
use Rattle.rr_cycle.specs.Cycles.{beginning, given, zeros}
use Rattle.rr_flat.specs.Inputs.{row_inputs}
use Rattle.rr_cycle.specs.Exec.{Environment, first, rest}
use Rattle.rr_cycle.specs.Performing.{any_is, base}
use Rattle.rr_blast_steps.specs.Designs.{signal_widths}
use Rattle.rr_blast.specs.Rows.{AreNarrow, AreRegisters, bits_of_row}
use Rattle.rr_transition.specs.Placed.{any_bit, placed, row_of}
use Rattle.rr_registers.specs.Registers.{bits_of_signal}
use Rattle.rr_signal_wires.specs.Words.{IsThere}
use Rattle.rr_blast_steps.proofs.BitLaws.{whole_there}
use Rattle.rr_meaning.specs.Work.{NoneAbove, inner_beginning}
use Rattle.rr_meaning.proofs.Rows.{all_inputs, row_over_beginning}
use Rattle.rr_meaning.proofs.Scoping.{IsSound, wide}
use Rattle.rr_flat.proofs.Bits.{or_left, or_right}

-- a bit is one of those that are given values, or has its old one

pub placed_cases : (bs : List Bit) (vs : List Bool) (e : Environment) (b : Bit) → placed bs vs e b ≡ cond (any_bit bs b) (placed bs vs zeros b) (e b)
unfolding placed any_bit
placed_cases [] vs e b = refl
placed_cases (c ∷ cs) vs e b = by (same_bit c b) (placed_cases cs (rest vs) e b)
  where
    by : (k : Bool) → placed cs (rest vs) e b ≡ cond (any_bit cs b) (placed cs (rest vs) zeros b) (e b) →
        cond k (first vs) (placed cs (rest vs) e b) ≡ cond (k || any_bit cs b) (cond k (first vs) (placed cs (rest vs) zeros b)) (e b)
    by true h = refl
    by false h = h

-- the bits of a run of a signal's places

and_false : (x : Bool) → (x && false) ≡ false
and_false true = refl
and_false false = refl

first_is : (vs : List Bool) (k : ℕ) → k ≡ 0 → first vs ≡ get_or vs k false
first_is [] k h = refl
first_is (v ∷ vs) k h = rw h refl

rest_is : (vs : List Bool) (j k : ℕ) → k ≡ suc j → get_or (rest vs) j false ≡ get_or vs k false
rest_is [] j k h = refl
rest_is (v ∷ vs) j k h = rw h refl

rest_drop : (vs : List Bool) (n : ℕ) → drop n (rest vs) ≡ drop (suc n) vs
rest_drop [] zero = refl
rest_drop [] (suc n) = refl
rest_drop (v ∷ vs) n = refl

pub run_placed : (id k n : ℕ) (cs : List Bit) (vs : List Bool) (e : Environment) (b : Bit) →
    placed (map (λ (p : ℕ). record { signal = id; place = p }) (range_with_len k n) ++ cs) vs e b
    ≡ cond (nat_eq id b.signal && (not (nat_lt b.place k) && nat_lt b.place (k + n))) (get_or vs (b.place - k) false) (placed cs (drop n vs) e b)
unfolding placed
run_placed id k zero cs vs e b = by (cases_lt b.place k)
  where
    by : ((b.place < k) ⊎ (k ≤ b.place)) → placed cs vs e b ≡ cond (nat_eq id b.signal && (not (nat_lt b.place k) && nat_lt b.place (k + zero))) (get_or vs (b.place - k) false) (placed cs vs e b)
    by (inl u) = rw (lt-ltb b.place k u, and_false (nat_eq id b.signal)) refl
    by (inr u) = rw (le-ltb b.place (k + zero) (omega (arith, u)), and_false (not (nat_lt b.place k)), and_false (nat_eq id b.signal)) refl
run_placed id k (suc n) cs vs e b = by (cases_eq id b.signal) (cases_eq k b.place) (cases_lt b.place k) (cases_lt b.place (k + suc n)) (run_placed id (k + 1) n cs (rest vs) e b)
  where
    Q : Bool
    Q = placed (map (λ (p : ℕ). record { signal = id; place = p }) (range_with_len (k + 1) n) ++ cs) (rest vs) e b

    by : ((id ≡ b.signal) ⊎ (id ≡ b.signal → ⊥)) → ((k ≡ b.place) ⊎ (k ≡ b.place → ⊥)) → ((b.place < k) ⊎ (k ≤ b.place)) → ((b.place < k + suc n) ⊎ (k + suc n ≤ b.place)) →
        Q ≡ cond (nat_eq id b.signal && (not (nat_lt b.place (k + 1)) && nat_lt b.place (k + 1 + n))) (get_or (rest vs) (b.place - (k + 1)) false) (placed cs (drop n (rest vs)) e b) →
        cond (nat_eq id b.signal && nat_eq k b.place) (first vs) Q
        ≡ cond (nat_eq id b.signal && (not (nat_lt b.place k) && nat_lt b.place (k + suc n))) (get_or vs (b.place - k) false) (placed cs (drop (suc n) vs) e b)
    by (inr s) p u v h =
        rw (ne_eqb id b.signal s)
        (h ∙ rw (ne_eqb id b.signal s) (ap (λ (ws : List Bool). placed cs ws e b) (rest_drop vs n)))
    by (inl s) (inl p) u v h =
        rw (eq-eqb id b.signal s, eq-eqb k b.place p, le-ltb b.place k (omega (arith, p)), lt-ltb b.place (k + suc n) (omega (arith, p)))
        (first_is vs (b.place - k) (omega (arith, p)))
    by (inl s) (inr p) (inl u) v h =
        rw (eq-eqb id b.signal s, ne_eqb k b.place p, lt-ltb b.place k u)
        (h ∙ rw (eq-eqb id b.signal s, lt-ltb b.place (k + 1) (omega (arith, u))) (ap (λ (ws : List Bool). placed cs ws e b) (rest_drop vs n)))
    by (inl s) (inr p) (inr u) (inl v) h =
        let m : k + 1 ≤ b.place = omega (arith, u, p) in
        rw (eq-eqb id b.signal s, ne_eqb k b.place p, le-ltb b.place k u, lt-ltb b.place (k + suc n) v)
        (h ∙ rw (eq-eqb id b.signal s, le-ltb b.place (k + 1) m, lt-ltb b.place (k + 1 + n) (omega (arith, v)))
        (rest_is vs (b.place - (k + 1)) (b.place - k) (omega (arith, m))))
    by (inl s) (inr p) (inr u) (inr v) h =
        let m : k + 1 ≤ b.place = omega (arith, u, p) in
        rw (eq-eqb id b.signal s, ne_eqb k b.place p, le-ltb b.place k u, le-ltb b.place (k + suc n) v)
        (h ∙ rw (eq-eqb id b.signal s, le-ltb b.place (k + 1) m, le-ltb b.place (k + 1 + n) (omega (arith, v)))
        (ap (λ (ws : List Bool). placed cs ws e b) (rest_drop vs n)))

-- the numbers of a row

number_place : (xs : List Bool) (i : ℕ) → has (number xs) i ≡ get_or xs i false
number_place xs i = elim (cases_lt i (length xs)) [
  | inl l ↦ sym (get_word (length xs) (number xs) i false l) ∙ ap (λ (ys : List Bool). get_or ys i false) (word_number xs)
  | inr l ↦ has_above (number xs) (length xs) i (number-lt xs) l ∙ sym (get_or_past xs i false l)
]

row_place : (vs : List Bool) (w p : ℕ) → w ≤ 128 → p < w → get_or vs p false ≡ get_or (word 128 (number (take w vs))) p false
row_place vs w p l m = sym (get_word 128 (number (take w vs)) p false (omega (arith, l, m)) ∙ number_place (take w vs) p ∙ get_or-take w vs p false m)

-- a row over an environment in which its signals are 0
pub row_is : (signals : List Signal) → AreNarrow signals → (e : Environment) (ids : List ℕ) (vs : List Bool) (b : Bit) → (any_is ids b.signal ≡ true → e b ≡ false) →
    placed (bits_of_row signals ids) vs e b ≡ cond (any_is ids b.signal) (nat_lt b.place (signal_at signals b.signal).width && given ids (row_of signals ids vs) b) (e b)
unfolding placed bits_of_row row_of given any_is
row_is signals narrow e [] vs b z = refl
row_is signals narrow e (id ∷ ids) vs b z =
    run_placed id 0 w (bits_of_row signals ids) vs e b
    ∙ by (cases_eq id b.signal) (cases_lt b.place w) (row_is signals narrow e ids (drop w vs) b (λ h. z (or_right (nat_eq id b.signal) (any_is ids b.signal) h)))
  where
    w : ℕ
    w = (signal_at signals id).width

    both_false : (x y : Bool) → y ≡ false → cond x false y ≡ false
    both_false true y h = refl
    both_false false y h = h

    by : ((id ≡ b.signal) ⊎ (id ≡ b.signal → ⊥)) → ((b.place < w) ⊎ (w ≤ b.place)) →
        placed (bits_of_row signals ids) (drop w vs) e b ≡ cond (any_is ids b.signal) (nat_lt b.place (signal_at signals b.signal).width && given ids (row_of signals ids (drop w vs)) b) (e b) →
        cond (nat_eq id b.signal && (not (nat_lt b.place 0) && nat_lt b.place (0 + w))) (get_or vs (b.place - 0) false) (placed (bits_of_row signals ids) (drop w vs) e b)
        ≡ cond (nat_eq id b.signal || any_is ids b.signal)
        (nat_lt b.place (signal_at signals b.signal).width && cond (nat_eq id b.signal) (get_or (word 128 (number (take w vs))) b.place false) (given ids (row_of signals ids (drop w vs)) b)) (e b)
    by (inr s) u h = rw (ne_eqb id b.signal s) h
    by (inl s) (inl u) h =
        let x : (signal_at signals b.signal).width ≡ w = ap (λ (i : ℕ). (signal_at signals i).width) (sym s) in
        let z : b.place - 0 ≡ b.place = omega arith in
        rw (eq-eqb id b.signal s, x, lt-ltb b.place w u, le-ltb b.place 0 (omega arith), lt-ltb b.place (0 + w) (omega (arith, u)), z) (row_place vs w b.place (narrow id) u)
    by (inl s) (inr u) h =
        let x : (signal_at signals b.signal).width ≡ w = ap (λ (i : ℕ). (signal_at signals i).width) (sym s) in
        let y : nat_lt b.place (signal_at signals b.signal).width ≡ false = ap (λ (n : ℕ). nat_lt b.place n) x ∙ le-ltb b.place w u in
        let here : e b ≡ false = z (or_left (nat_eq id b.signal) (any_is ids b.signal) (eq-eqb id b.signal s)) in
        let k : placed (bits_of_row signals ids) (drop w vs) e b ≡ false =
        h ∙ ap (λ (c : Bool). cond (any_is ids b.signal) (c && given ids (row_of signals ids (drop w vs)) b) (e b)) y ∙ both_false (any_is ids b.signal) (e b) here in
        rw (eq-eqb id b.signal s, y, le-ltb b.place (0 + w) (omega (arith, u)), and_false (not (nat_lt b.place 0))) k

-- the whole

pub base_is : (flat : Flat) (clock : Option ℕ) (registers : List Bit) (s r : List Bool) → AreNarrow flat.signals → NoneAbove flat → AreRegisters flat registers →
    placed registers s (placed (bits_of_row flat.signals (row_inputs clock flat.inputs)) r (inner_beginning flat)) ≡ base flat clock (placed registers s zeros) (row_of flat.signals (row_inputs clock flat.inputs) r)
unfolding base
base_is flat clock registers s r narrow above are = fun_ext (λ (b : Bit).
    placed_cases registers s (placed (bits_of_row flat.signals (row_inputs clock flat.inputs)) r (inner_beginning flat)) b
    ∙ ap₂ (λ (x y : Bool). cond x (placed registers s zeros b) y) (are b)
    (row_is flat.signals narrow (inner_beginning flat) (row_inputs clock flat.inputs) r b
    (λ h. ap (λ (x : Bool). cond x false (beginning flat b)) (all_inputs clock flat.inputs b.signal h))
    ∙ row_over_beginning flat clock (row_of flat.signals (row_inputs clock flat.inputs) r) above b))

-- signals of a design

pub narrow_of : (d : Design) → IsSound d → AreNarrow (plain_flat d).signals
narrow_of d f id = by (cases_lt id (length d.signals))
  where
    by : ((id < length d.signals) ⊎ (length d.signals ≤ id)) → (signal_at (map plain_signal d.signals) id).width ≤ 128
    by (inl l) = (wide d id f l).high
    by (inr l) = rw (get_or_past (map plain_signal d.signals) id no_signal (omega (arith, l, length-map d.signals plain_signal))) (omega arith)

pub row_there : (d : Design) (ids : List ℕ) → All (λ (id : ℕ). id < length d.signals) ids → All (IsThere (signal_widths d.signals)) (bits_of_row (plain_flat d).signals ids)
unfolding bits_of_row
row_there d [] h = λ k x l. absurd (omega arith)
row_there d (id ∷ ids) h =
    All-append (IsThere (signal_widths d.signals)) (bits_of_signal (map plain_signal d.signals) id) (bits_of_row (map plain_signal d.signals) ids)
    (All-map (IsThere (signal_widths d.signals)) (λ (p : ℕ). record { signal = id; place = p }) (range_with_len 0 (signal_at (map plain_signal d.signals) id).width)
    (λ k x l. let m : k < (signal_at (map plain_signal d.signals) id).width = omega (arith, l, length-range_with_len 0 (signal_at (map plain_signal d.signals) id).width) in
    let z : 0 + k ≡ k = omega arith in
    let e : get_or (range_with_len 0 (signal_at (map plain_signal d.signals) id).width) k x ≡ k = get_or-range_with_len 0 (signal_at (map plain_signal d.signals) id).width k x m ∙ z in
    rw e (whole_there d id k (All-head (λ (i : ℕ). i < length d.signals) id ids h) m)))
    (row_there d ids (All-tail (λ (i : ℕ). i < length d.signals) id ids h))
