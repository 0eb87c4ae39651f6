-- rows of inputs over the bits of registers
use mir.Syntax.{w128}
use Rattle.std.proofs.Common.{◌≡◌, ◌∙◌, sym, ap, ap₂, subst, ℕ, zero, suc, ◌+◌, ◌-◌, ◌<◌, ◌≤◌, ◌^◌, ◌==◌, Bool, true, false, cond, not, ◌&&◌, ◌||◌, List, [], ◌∷◌, length, take, drop, drop-cons, get_or, set, replicate, nat_eq, nat_lt, Option, refl, arith, ◌⊎◌, inl, inr}
use mathlib.Core.Path.{fun_ext}
use Rattle.std.proofs.lemmas.Bool.{cases_Bool, cases_eq, cases_lt, both_ways, or_cases, eqb-true, eq-eqb, ne_eqb, lt-ltb, le-ltb}
use Rattle.std.proofs.lemmas.Nat.Bits.{bit_at-lt, bit_at_not}
use Rattle.std.proofs.lemmas.List.{get_or_past, get_or-replicate, length-replicate}
use Rattle.std.specs.Int.{bit_at, bit_not}
use Rattle.std.specs.Int.RustNames.{bit_and, bit_or}
use Rattle.rr_bits.specs.Fields.{length_word, number_word}
use Rattle.rr_bits.specs.Words.{number, word}
use Rattle.rr_bits.proofs.Numbers.{number-lt, word_mod}
use Rattle.rr_bits.proofs.Places.{has, has_above, has_and, has_or, has_zero, get_word, get_past}
use Rattle.rr_expr.specs.declared.types.Bit.{Bit}
use Rattle.rr_expr.specs.Scopes.{env_of}
use Rattle.rr_flat.specs.Signals.{Signal, signal_at}
use Rattle.rr_flat.specs.Plain.{Block, Flat}
use Rattle.rr_flat.specs.Sound.{AreStarts}
use Rattle.rr_flat.specs.View.{Design, plain_flat}
use Rattle.rr_flat.specs.Writers.{Clocked, Writer, Writes, block_at, writes_at_all}
use Rattle.rr_cycle.specs.Cycles.{IsInputBit, beginning, given, head, tail, zeros}
use Rattle.rr_flat.specs.Inputs.{is_clock, row_inputs}
use Rattle.rr_cycle.specs.Exec.{Environment}
use Rattle.rr_cycle.specs.Performing.{any_is, any_writes, base}
use Rattle.rr_flat.proofs.Bits.{missed}
use Rattle.rr_exec.proofs.Pieces.{env_set}
use Rattle.rr_writers.proofs.Entries.{or_assoc, or_false}
use Rattle.rr_meaning.specs.Work.{cut_to, given_over, inner_beginning, masked, NoneAbove}

-- a number that is not there

zero_bit : (p : ℕ) → get_or (word 128 0) p false ≡ false
zero_bit p = elim (cases_lt p 128) [ inl l ↦ get_word 128 0 p false l ∙ has_zero p | inr l ↦ get_past 128 0 p false l ]

pub past_values : (values : List ℕ) (b : Bit) → length values ≤ b.signal → env_of values b ≡ false
past_values values b l = ap (λ (n : ℕ). get_or (word 128 n) b.place false) (get_or_past values b.signal 0 l) ∙ zero_bit b.place

pub zeros_are : (values : List ℕ) → ((i : ℕ) → get_or values i 0 ≡ 0) → env_of values ≡ zeros
zeros_are values h = fun_ext (λ b. ap (λ (n : ℕ). get_or (word 128 n) b.place false) (h b.signal) ∙ zero_bit b.place)

-- masks

and_bit : (m n p : ℕ) → get_or (word 128 (bit_and m n)) p false ≡ (get_or (word 128 m) p false && get_or (word 128 n) p false)
and_bit m n p = elim (cases_lt p 128) [
  | inl l ↦ rw (get_word 128 m p false l, get_word 128 n p false l) (get_word 128 (bit_and m n) p false l ∙ has_and m n p)
  | inr l ↦ rw (get_past 128 m p false l) (get_past 128 (bit_and m n) p false l)
]

or_bit : (m n p : ℕ) → get_or (word 128 (bit_or m n)) p false ≡ (get_or (word 128 m) p false || get_or (word 128 n) p false)
or_bit m n p = elim (cases_lt p 128) [
  | inl l ↦ rw (get_word 128 m p false l, get_word 128 n p false l) (get_word 128 (bit_or m n) p false l ∙ has_or m n p)
  | inr l ↦ rw (get_past 128 m p false l, get_past 128 n p false l) (get_past 128 (bit_or m n) p false l)
]

not_one : (x : ℕ) → x < 2 → (1 - x == 1) ≡ not (x == 1)
not_one zero l = refl
not_one (suc zero) l = refl
not_one (suc (suc x)) l = absurd (omega arith)

-- the bits of a number that is turned over, where it has 128
not_bit : (n p : ℕ) → n < 2 ^ 128 → p < 128 → get_or (word 128 (bit_not w128 n)) p false ≡ not (get_or (word 128 n) p false)
unfolding has
not_bit n p s l =
    rw (get_word 128 n p false l)
    (get_word 128 (bit_not w128 n) p false l ∙ ap (λ (k : ℕ). k == 1) (bit_at_not w128 n p s l) ∙ not_one (bit_at n p) (bit_at-lt n p))

pub mixed_bit : (mask value other p : ℕ) → mask < 2 ^ 128 →
    get_or (word 128 (bit_or (bit_and value mask) (bit_and other (bit_not w128 mask)))) p false
    ≡ cond (get_or (word 128 mask) p false) (get_or (word 128 value) p false) (get_or (word 128 other) p false)
mixed_bit mask value other p s = elim (cases_lt p 128) [
  | inl l ↦
      or_bit (bit_and value mask) (bit_and other (bit_not w128 mask)) p
      ∙ ap₂ (λ (x y : Bool). x || y) (and_bit value mask p) (and_bit other (bit_not w128 mask) p ∙ ap (λ (x : Bool). get_or (word 128 other) p false && x) (not_bit mask p s l))
      ∙ chosen (get_or (word 128 mask) p false) (get_or (word 128 value) p false) (get_or (word 128 other) p false)
  | inr l ↦ rw (get_past 128 value p false l, get_past 128 other p false l) (get_past 128 _ p false l ∙ none (get_or (word 128 mask) p false))
]
  where
    chosen : (m x y : Bool) → ((x && m) || (y && not m)) ≡ cond m x y
    chosen true true true = refl
    chosen true true false = refl
    chosen true false true = refl
    chosen true false false = refl
    chosen false true true = refl
    chosen false true false = refl
    chosen false false true = refl
    chosen false false false = refl

    none : (m : Bool) → false ≡ cond m false false
    none true = refl
    none false = refl

-- the values below a place are masked
abbrev pub Masked : List ℕ → List ℕ → Environment → ℕ → Environment → Type 0
Masked masks others e n f = (b : Bit) → f b ≡ cond (nat_lt b.signal n) (masked masks others e b) (e b)

pub mask_none : (masks others : List ℕ) (e : Environment) → Masked masks others e 0 e
mask_none masks others e b = rw (le-ltb b.signal 0 (omega arith)) refl

-- a number has the bits of one that a mask has, and those of another
abbrev pub IsMixed : ℕ → ℕ → ℕ → ℕ → Type 0
IsMixed m mask value other =
    (p : ℕ) → get_or (word 128 m) p false ≡ cond (get_or (word 128 mask) p false) (get_or (word 128 value) p false) (get_or (word 128 other) p false)

pub mask_more : (masks others values : List ℕ) (e : Environment) (n m : ℕ) → n < length values → IsMixed m (get_or masks n 0) (get_or values n 0) (get_or others n 0) →
    Masked masks others e n (env_of values) → Masked masks others e (n + 1) (env_of (set values n m))
mask_more masks others values e n m l mixed h b = env_set values n m b l ∙ by (cases_eq n b.signal)
  where
    by : ((n ≡ b.signal) ⊎ (n ≡ b.signal → ⊥)) → cond (nat_eq n b.signal) (get_or (word 128 m) b.place false) (env_of values b) ≡ cond (nat_lt b.signal (n + 1)) (masked masks others e b) (e b)
    by (inl q) =
        let u : b.signal < n + 1 = omega arith in
        let v : n ≤ b.signal = omega arith in
        let old : env_of values b ≡ e b = rw (le-ltb b.signal n v) at (h b) in
        rw (eq-eqb n b.signal q, lt-ltb b.signal (n + 1) u)
        (mixed b.place
        ∙ ap (λ (k : ℕ). cond (get_or (word 128 (get_or masks k 0)) b.place false) (get_or (word 128 (get_or values k 0)) b.place false) (get_or (word 128 (get_or others k 0)) b.place false)) q
        ∙ ap (λ (x : Bool). cond (env_of masks b) x (env_of others b)) old)
    by (inr q) = rw (ne_eqb n b.signal q) (h b ∙ ap (λ (x : Bool). cond x (masked masks others e b) (e b)) (same (cases_lt b.signal n)))
      where
        same : ((b.signal < n) ⊎ (n ≤ b.signal)) → nat_lt b.signal n ≡ nat_lt b.signal (n + 1)
        same (inl l) = let m : b.signal < n + 1 = omega arith in rw (lt-ltb b.signal n l, lt-ltb b.signal (n + 1) m) refl
        same (inr l) = let m : n + 1 ≤ b.signal = omega (arith, q) in rw (le-ltb b.signal n l, le-ltb b.signal (n + 1) m) refl

pub mask_all : (masks others values : List ℕ) (n : ℕ) (f : Environment) → length values ≤ n → length others ≤ n → Masked masks others (env_of values) n f → f ≡ masked masks others (env_of values)
mask_all masks others values n f l k h = fun_ext (λ b. h b ∙ by b (cases_lt b.signal n))
  where
    same : (x y z : Bool) → y ≡ z → y ≡ cond x y z
    same true y z h = refl
    same false y z h = h

    by : (b : Bit) → ((b.signal < n) ⊎ (n ≤ b.signal)) → cond (nat_lt b.signal n) (masked masks others (env_of values) b) (env_of values b) ≡ masked masks others (env_of values) b
    by b (inl u) = rw (lt-ltb b.signal n u) refl
    by b (inr u) = rw (le-ltb b.signal n u) (same (env_of masks b) (env_of values b) (env_of others b) (past_values values b (omega arith) ∙ sym (past_values others b (omega arith))))

-- what signals begin with

-- a signal begins with no bit above its width
pub none_above : (d : Design) → AreStarts d.signals d.starts → NoneAbove (plain_flat d)
none_above d starts b l = elim (cases_lt b.signal (length d.signals)) [
  | inl k ↦ elim (cases_lt b.place 128) [
    | inl m ↦ get_word 128 (get_or d.starts b.signal 0) b.place false m ∙ has_above (get_or d.starts b.signal 0) (signal_at (plain_flat d).signals b.signal).width b.place (starts.fit b.signal k) l
    | inr m ↦ get_past 128 (get_or d.starts b.signal 0) b.place false m
  ]
  | inr k ↦ past_values d.starts b (omega (arith, starts.all))
]

-- the inputs before a place have 0
abbrev pub Inside : List ℕ → Environment → Environment → Type 0
Inside ids e f = (b : Bit) → f b ≡ cond (any_is ids b.signal) false (e b)

pub inside_none : (e : Environment) → Inside [] e e
unfolding any_is
inside_none e b = refl

any_more : (ids : List ℕ) (i n : ℕ) → i < length ids → any_is (take (suc i) ids) n ≡ (any_is (take i ids) n || nat_eq (get_or ids i 0) n)
unfolding any_is
any_more [] i n l = absurd (omega arith)
any_more (id ∷ ids) zero n l = or_false (nat_eq id n)
any_more (id ∷ ids) (suc i) n l = ap (λ (x : Bool). nat_eq id n || x) (any_more ids i n (omega arith)) ∙ sym (or_assoc (nat_eq id n) (any_is (take i ids) n) (nat_eq (get_or ids i 0) n))

pub inside_more : (ids values : List ℕ) (i id : ℕ) (e : Environment) → i < length ids → id ≡ get_or ids i 0 → id < length values → Inside (take i ids) e (env_of values) → Inside (take (i + 1) ids) e (env_of (set values id 0))
inside_more ids values i id e l q k h b =
    env_set values id 0 b k ∙ ap (λ (x : Bool). cond (nat_eq id b.signal) x (env_of values b)) (zero_bit b.place) ∙ ap (cond (nat_eq id b.signal) false) (h b)
    ∙ either (nat_eq id b.signal) (any_is (take i ids) b.signal) (e b)
    ∙ ap (λ (x : Bool). cond x false (e b)) (ap (λ (j : ℕ). any_is (take i ids) b.signal || nat_eq j b.signal) q ∙ sym (any_more ids i b.signal l) ∙ ap (λ (k : ℕ). any_is (take k ids) b.signal) one)
  where
    one : suc i ≡ i + 1
    one = omega arith

    either : (x y z : Bool) → cond x false (cond y false z) ≡ cond (y || x) false z
    either true true z = refl
    either true false z = refl
    either false true z = refl
    either false false z = refl

-- the numbers of a row, from the last one on

pub give_none : (signals : List Signal) (ids row : List ℕ) (e : Environment) → length row ≡ length ids → e ≡ given_over signals (drop (length ids) ids) (drop (length ids) row) e
unfolding given_over
give_none signals [] row e l = refl
give_none signals (id ∷ ids) [] e l = absurd (omega arith)
give_none signals (id ∷ ids) (n ∷ row) e l = give_none signals ids row e (omega arith)

pub give_more : (signals : List Signal) (ids row : List ℕ) (i j id n m : ℕ) (values : List ℕ) (e : Environment) → i < length ids → i < length row → id ≡ get_or ids i 0 → n ≡ get_or row i 0 → m ≡ cut_to signals id n → j ≡ i + 1 → id < length values →
    env_of values ≡ given_over signals (drop j ids) (drop j row) e → env_of (set values id m) ≡ given_over signals (drop i ids) (drop i row) e
unfolding given_over
give_more signals ids row i j id n m values e l k p q c r in' h =
    let s : suc i ≡ j = omega arith in
    let x : drop i ids ≡ id ∷ drop j ids = drop-cons ids i 0 l ∙ ap (λ (k : ℕ). k ∷ drop (suc i) ids) (sym p) ∙ ap (λ (k : ℕ). id ∷ drop k ids) s in
    let y : drop i row ≡ n ∷ drop j row = drop-cons row i 0 k ∙ ap (λ (k : ℕ). k ∷ drop (suc i) row) (sym q) ∙ ap (λ (k : ℕ). n ∷ drop k row) s in
    fun_ext (λ b. env_set values id m b in' ∙ ap (λ (f : Environment). cond (nat_eq id b.signal) (get_or (word 128 m) b.place false) (f b)) h
    ∙ ap (λ (v : ℕ). cond (nat_eq id b.signal) (get_or (word 128 v) b.place false) (given_over signals (drop j ids) (drop j row) e b)) c)
    ∙ ap (λ (us : List ℕ). given_over signals us (n ∷ drop j row) e) (sym x) ∙ ap (λ (us : List ℕ). given_over signals (drop i ids) us e) (sym y)

-- the first environment of the steps

-- a number that is cut to a width has the bits below it
cut_bit : (w n p : ℕ) → get_or (word 128 (number (word w n))) p false ≡ (nat_lt p w && get_or (word 128 n) p false)
cut_bit w n p = elim (cases_lt p 128) [
  | inl l ↦ get_word 128 (number (word w n)) p false l ∙ by (cases_lt p w) ∙ ap (λ (x : Bool). nat_lt p w && x) (sym (get_word 128 n p false l))
  | inr l ↦ get_past 128 (number (word w n)) p false l ∙ none (nat_lt p w) ∙ ap (λ (x : Bool). nat_lt p w && x) (sym (get_past 128 n p false l))
]
  where
    none : (x : Bool) → false ≡ (x && false)
    none true = refl
    none false = refl

    by : ((p < w) ⊎ (w ≤ p)) → has (number (word w n)) p ≡ (nat_lt p w && has n p)
    by (inl l) =
        rw (lt-ltb p w l)
        (sym (get_word w (number (word w n)) p false l)
        ∙ ap (λ (bs : List Bool). get_or bs p false) (ap (word w) (number_word w n) ∙ word_mod w n)
        ∙ get_word w n p false l)
    by (inr l) = rw (le-ltb p w l) (has_above (number (word w n)) w p (subst (λ (k : ℕ). number (word w n) < 2 ^ k) (length_word w n) (number-lt (word w n))) l)

over_is : (signals : List Signal) (ids row : List ℕ) (e : Environment) (b : Bit) → given_over signals ids row e b ≡ cond (any_is ids b.signal) (nat_lt b.place (signal_at signals b.signal).width && given ids row b) (e b)
unfolding given_over given any_is
over_is signals [] row e b = refl
over_is signals (id ∷ ids) row e b = by (cases_eq id b.signal) (over_is signals ids (tail row) e b)
  where
    by : ((id ≡ b.signal) ⊎ (id ≡ b.signal → ⊥)) →
        given_over signals ids (tail row) e b ≡ cond (any_is ids b.signal) (nat_lt b.place (signal_at signals b.signal).width && given ids (tail row) b) (e b) →
        cond (nat_eq id b.signal) (get_or (word 128 (cut_to signals id (head row))) b.place false) (given_over signals ids (tail row) e b)
        ≡ cond (nat_eq id b.signal || any_is ids b.signal) (nat_lt b.place (signal_at signals b.signal).width && cond (nat_eq id b.signal) (get_or (word 128 (head row)) b.place false) (given ids (tail row) b)) (e b)
    by (inl q) r =
        rw (eq-eqb id b.signal q)
        (cut_bit (signal_at signals id).width (head row) b.place
        ∙ ap (λ (k : ℕ). nat_lt b.place (signal_at signals k).width && get_or (word 128 (head row)) b.place false) q)
    by (inr q) r = rw (ne_eqb id b.signal q) r

pub not_given : (ids row : List ℕ) (b : Bit) → any_is ids b.signal ≡ false → given ids row b ≡ false
unfolding given any_is
not_given [] row b h = refl
not_given (id ∷ ids) row b h = elim (cases_Bool (nat_eq id b.signal)) [
  | inl t ↦ absurd (both_ways true (rw t at h) refl)
  | inr t ↦ rw t (not_given ids (tail row) b (rw t at h))
]

pub all_inputs : (clock : Option ℕ) (ids : List ℕ) (n : ℕ) → any_is (row_inputs clock ids) n ≡ true → any_is ids n ≡ true
unfolding any_is
all_inputs clock [] n h = h
all_inputs clock (id ∷ ids) n h = by (is_clock clock id) (all_inputs clock ids n) h
  where
    right : (x y : Bool) → y ≡ true → (x || y) ≡ true
    right true y h = refl
    right false y h = h

    by : (c : Bool) → (any_is (row_inputs clock ids) n ≡ true → any_is ids n ≡ true) → any_is (cond (not c) (id ∷ row_inputs clock ids) (row_inputs clock ids)) n ≡ true → (nat_eq id n || any_is ids n) ≡ true
    by true r h = right (nat_eq id n) (any_is ids n) (r h)
    by false r h = elim (or_cases (nat_eq id n) (any_is (row_inputs clock ids) n) h) [
      | inl t ↦ rw t refl
      | inr t ↦ right (nat_eq id n) (any_is ids n) (r t)
    ]

input_at : (ids : List ℕ) (n : ℕ) → any_is ids n ≡ true → (k : ℕ) × ((k < length ids) × (get_or ids k 0 ≡ n))
unfolding any_is
input_at [] n h = absurd (both_ways false refl h)
input_at (m ∷ ms) n h = elim (or_cases (nat_eq m n) (any_is ms n) h) [
  | inl i ↦ (0, (omega arith, eqb-true m n i))
  | inr i ↦ let r = input_at ms n i in (suc r.0, (omega (arith, r.1.0), r.1.1))
]

-- what an input is given
narrow_input : (flat : Flat) → NoneAbove flat → (b : Bit) (g : Bool) → ((b.place < (signal_at flat.signals b.signal).width) ⊎ ((signal_at flat.signals b.signal).width ≤ b.place)) →
    (nat_lt b.place (signal_at flat.signals b.signal).width && g) ≡ cond (nat_lt b.place (signal_at flat.signals b.signal).width) g (beginning flat b)
narrow_input flat above b g (inl l) = rw (lt-ltb b.place (signal_at flat.signals b.signal).width l) refl
narrow_input flat above b g (inr l) = rw (le-ltb b.place (signal_at flat.signals b.signal).width l) (sym (above b l))

-- what is not given is a clock, or no input
not_of_row : (flat : Flat) → NoneAbove flat → (b : Bit) (x : Bool) → ((b.place < (signal_at flat.signals b.signal).width) ⊎ ((signal_at flat.signals b.signal).width ≤ b.place)) →
    cond x false (beginning flat b) ≡ cond (x && nat_lt b.place (signal_at flat.signals b.signal).width) false (beginning flat b)
not_of_row flat above b true (inl l) = rw (lt-ltb b.place (signal_at flat.signals b.signal).width l) refl
not_of_row flat above b true (inr l) = rw (le-ltb b.place (signal_at flat.signals b.signal).width l) (sym (above b l))
not_of_row flat above b false l = refl

-- a row over what signals begin with, where no register stands
pub row_over_beginning : (flat : Flat) (clock : Option ℕ) (row : List ℕ) → NoneAbove flat → (b : Bit) →
    cond (any_is (row_inputs clock flat.inputs) b.signal) (nat_lt b.place (signal_at flat.signals b.signal).width && given (row_inputs clock flat.inputs) row b) (inner_beginning flat b)
    ≡ cond (any_is flat.inputs b.signal && nat_lt b.place (signal_at flat.signals b.signal).width) (given (row_inputs clock flat.inputs) row b) (beginning flat b)
row_over_beginning flat clock row above b = by (any_is (row_inputs clock flat.inputs) b.signal) refl
  where
    by : (i : Bool) → any_is (row_inputs clock flat.inputs) b.signal ≡ i →
        cond i (nat_lt b.place (signal_at flat.signals b.signal).width && given (row_inputs clock flat.inputs) row b) (inner_beginning flat b)
        ≡ cond (any_is flat.inputs b.signal && nat_lt b.place (signal_at flat.signals b.signal).width) (given (row_inputs clock flat.inputs) row b) (beginning flat b)
    by true k = rw (all_inputs clock flat.inputs b.signal k) (narrow_input flat above b (given (row_inputs clock flat.inputs) row b) (cases_lt b.place (signal_at flat.signals b.signal).width))
    by false k =
        let g : given (row_inputs clock flat.inputs) row b ≡ false = not_given (row_inputs clock flat.inputs) row b k in
        rw g (not_of_row flat above b (any_is flat.inputs b.signal) (cases_lt b.place (signal_at flat.signals b.signal).width))

pub base_made : (flat : Flat) (clock : Option ℕ) (row masks others values : List ℕ) → ((b : Bit) → env_of masks b ≡ any_writes flat flat.clocked b) →
    env_of others ≡ inner_beginning flat → NoneAbove flat →
    ((b : Bit) → IsInputBit flat b → any_writes flat flat.clocked b ≡ false) → ((b : Bit) → any_writes flat flat.clocked b ≡ true → b.place < (signal_at flat.signals b.signal).width) →
    given_over flat.signals (row_inputs clock flat.inputs) row (masked masks others (env_of values)) ≡ base flat clock (env_of values) row
unfolding base
base_made flat clock row masks others values reg inside above free narrow = fun_ext (λ b.
    over_is flat.signals (row_inputs clock flat.inputs) row (masked masks others (env_of values)) b
    ∙ ap₂ (λ (x y : Bool). cond (any_is (row_inputs clock flat.inputs) b.signal) (nat_lt b.place (signal_at flat.signals b.signal).width && given (row_inputs clock flat.inputs) row b) (cond x (env_of values b) y)) (reg b) (ap (λ (e : Environment). e b) inside)
    ∙ by b (any_writes flat flat.clocked b) refl (any_is (row_inputs clock flat.inputs) b.signal) refl)
  where
    input : (b : Bit) → any_is (row_inputs clock flat.inputs) b.signal ≡ true → b.place < (signal_at flat.signals b.signal).width → IsInputBit flat b
    input b h l = (input_at flat.inputs b.signal (all_inputs clock flat.inputs b.signal h), l)

    by : (b : Bit) (w : Bool) → any_writes flat flat.clocked b ≡ w → (i : Bool) → any_is (row_inputs clock flat.inputs) b.signal ≡ i →
        cond i (nat_lt b.place (signal_at flat.signals b.signal).width && given (row_inputs clock flat.inputs) row b) (cond w (env_of values b) (cond (any_is flat.inputs b.signal) false (beginning flat b)))
        ≡ cond w (env_of values b) (cond (any_is flat.inputs b.signal && nat_lt b.place (signal_at flat.signals b.signal).width) (given (row_inputs clock flat.inputs) row b) (beginning flat b))
    by b true h true k = absurd (both_ways (any_writes flat flat.clocked b) (free b (input b k (narrow b h))) h)
    by b true h false k = refl
    by b false h i k = ap (λ (x : Bool). cond x (nat_lt b.place (signal_at flat.signals b.signal).width && given (row_inputs clock flat.inputs) row b) (inner_beginning flat b)) (sym k) ∙ row_over_beginning flat clock row above b

pub zeros_made : (n : ℕ) (values : List ℕ) → values ≡ replicate n 0 → env_of values ≡ zeros
zeros_made n values h = zeros_are values (λ i. ap (λ (xs : List ℕ). get_or xs i 0) h ∙ zero i (cases_lt i n))
  where
    zero : (i : ℕ) → ((i < n) ⊎ (n ≤ i)) → ◌≡◌ {A = ℕ} (get_or (replicate n 0) i 0) 0
    zero i (inl l) = get_or-replicate n i 0 0 l
    zero i (inr l) = get_or_past (replicate n 0) i 0 (omega (arith, length-replicate {A = ℕ} n 0))

-- what nothing writes, no clocked block writes
any_at : (flat : Flat) (blocks : List Block) (b : Bit) → any_writes flat blocks b ≡ true → (k : ℕ) × ((k < length blocks) × (writes_at_all flat (block_at blocks k) b ≡ true))
unfolding any_writes
any_at flat [] b h = absurd (both_ways false refl h)
any_at flat (x ∷ xs) b h = elim (or_cases (writes_at_all flat x b) (any_writes flat xs b) h) [
  | inl i ↦ (0, (omega arith, i))
  | inr i ↦ let r = any_at flat xs b i in (suc r.0, (omega (arith, r.1.0), r.1.1))
]

pub inputs_unwritten : (flat : Flat) → ((b : Bit) → IsInputBit flat b → (x : Writer) → Writes flat x b → ⊥) → (b : Bit) → IsInputBit flat b → any_writes flat flat.clocked b ≡ false
unfolding Writes
inputs_unwritten flat free b i = missed (any_writes flat flat.clocked b) (λ t. let r = any_at flat flat.clocked b t in free b i (Clocked r.0) r.1)
