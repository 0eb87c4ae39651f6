-- writes of runs of places
use Rattle.std.proofs.Common.{◌≡◌, ℕ, zero, suc, ◌+◌, ◌-◌, ◌*◌, ◌/◌, ◌%◌, ◌^◌, ◌<◌, ◌≤◌, List, [], ◌∷◌, ◌++◌, length, get_or, set, drop, Bool, true, false, cond, not, ◌&&◌, nat_eq, nat_lt, Option, Some, None, refl, ap, ◌∙◌, sym, arith, ◌⊎◌, inl, inr, ℤ, pos, ◌+ℤ◌, ◌-ℤ◌, FitsSigned}
use mathlib.Core.Path.{fun_ext}
use mir.Syntax.{w64}
use mir.Val.{of_z, to_z}
use Rattle.std.proofs.lemmas.Bool.{cases_Bool, cases_eq, cases_lt, eq-eqb, ne_eqb, lt-ltb, le-ltb}
use Rattle.std.proofs.lemmas.Int.{ints}
use Rattle.std.proofs.lemmas.List.{drop_all, drop_more, get_or_past, get_or-set_same, get_or-set_other}
use Rattle.std.specs.Int.RustNames.{bit_xor}
use Rattle.rr_bits.specs.Words.{number, word, select, one_of, bit_in as word_bit}
use Rattle.rr_bits.specs.Fields.{length_word}
use Rattle.rr_bits.proofs.Numbers.{number-lt, word_number, word_mod}
use Rattle.rr_bits.proofs.Places.{has, get_tabulate, length_tabulate, has_above, has_shr, has_shl, has_xor_true, has_xor_false, get_word, get_past}
use Rattle.rr_expr.specs.declared.types.Bit.{Bit}
use Rattle.rr_expr.specs.Scopes.{env_of}
use Rattle.rr_named_bits.specs.declared.piece.Piece.{Piece}
use Rattle.rr_named_bits.specs.Pieces.{bit_in, bits_of, all_bits, covers}
use Rattle.rr_named_bits.proofs.Runs.{bit_is, covers_in, has_in, IsIn}
use Rattle.rr_named_bits.proofs.Places.{all_bits_at, at_run, piece_length}
use Rattle.rr_cycle.proofs.Applied.{applied_append}
use Rattle.rr_cycle.specs.Exec.{Environment, put, write, Update, applied}
use Rattle.rr_cycle.proofs.Writes.{write_outside, write_there}
use Rattle.rr_flat.proofs.Bits.{bit_eq, place_inside}
use Rattle.rr_exec.specs.declared.writes.Later.{Later}
use Rattle.rr_exec.specs.Work.{Fits, update_of, updates_in}

xor_place : (a b i : ℕ) → has (bit_xor a b) i ≡ cond (has b i) (not (has a i)) (has a i)
xor_place a b i = elim (cases_Bool (has b i)) [
  | inl t ↦ has_xor_true a b i t ∙ sym (rw t refl)
  | inr t ↦ has_xor_false a b i t ∙ sym (rw t refl)
]

twice : (h p : Bool) → cond (cond p (not h) h) (not h) h ≡ p
twice true true = refl
twice true false = refl
twice false true = refl
twice false false = refl

low_place : (n i : ℕ) → i < 128 → has (n % 2 ^ 128) i ≡ has n i
low_place n i l = sym (get_word 128 (n % 2 ^ 128) i false l) ∙ ap (λ (xs : List Bool). get_or xs i false) (word_mod 128 n) ∙ get_word 128 n i false l

pub number_place : (xs : List Bool) (i : ℕ) → has (number xs) i ≡ get_or xs i false
number_place xs i = elim (cases_lt i (length xs)) [
  | inl l ↦ sym (get_word (length xs) (number xs) i false l) ∙ ap (λ (ys : List Bool). get_or ys i false) (word_number xs)
  | inr l ↦ has_above (number xs) (length xs) i (number-lt xs) l ∙ sym (get_or_past xs i false l)
]

-- places of a number that are replaced by xor
pub merged_is : (old low k : ℕ) (part here diff : List Bool) → low + length part ≤ 128 → here ≡ word (length part) (old / 2 ^ low) → diff ≡ one_of here part → k ≡ bit_xor old ((number diff * 2 ^ low) % 2 ^ 128) →
    (p : ℕ) → get_or (word 128 k) p false ≡ cond (not (nat_lt p low) && nat_lt p (low + length part)) (get_or part (p - low) false) (get_or (word 128 old) p false)
merged_is old low k part here diff l h d e p = elim (cases_lt p 128) [
  | inl m ↦ get_word 128 k p false m ∙ ap (λ (n : ℕ). has n p) e ∙ xor_place old ((number diff * 2 ^ low) % 2 ^ 128) p
      ∙ ap (λ (b : Bool). cond b (not (has old p)) (has old p)) (low_place (number diff * 2 ^ low) p m ∙ has_shl (number diff) low p)
      ∙ inside m (cases_lt p low) (cases_lt p (low + length part))
  | inr m ↦ get_past 128 k p false m ∙ sym (rw (le-ltb p (low + length part) (omega arith), and_false (not (nat_lt p low))) (get_past 128 old p false m))
]
  where
    and_false : (x : Bool) → (x && false) ≡ false
    and_false true = refl
    and_false false = refl

    here_place : (q : ℕ) → q < length part → get_or here q false ≡ has old (q + low)
    here_place q u = ap (λ (xs : List Bool). get_or xs q false) h ∙ get_word (length part) (old / 2 ^ low) q false u ∙ has_shr old low q

    here_length : length here ≡ length part
    here_length = ap length h ∙ length_word (length part) (old / 2 ^ low)

    diff_place : (q : ℕ) → q < length part → get_or diff q false ≡ cond (get_or part q false) (not (get_or here q false)) (get_or here q false)
    diff_place q u = ap (λ (xs : List Bool). get_or xs q false) d ∙ get_tabulate (length here) q (λ i. cond (get_or part i false) (not (get_or here i false)) (get_or here i false)) false (omega (arith, here_length))

    diff_length : length diff ≡ length part
    diff_length = ap length d ∙ length_tabulate (length here) (λ i. cond (get_or part i false) (not (get_or here i false)) (get_or here i false)) ∙ here_length

    inside : p < 128 → ((p < low) ⊎ (low ≤ p)) → ((p < low + length part) ⊎ (low + length part ≤ p)) →
        cond (cond (nat_lt p low) false (has (number diff) (p - low))) (not (has old p)) (has old p) ≡ cond (not (nat_lt p low) && nat_lt p (low + length part)) (get_or part (p - low) false) (get_or (word 128 old) p false)
    inside m (inl u) v = rw (lt-ltb p low u) (sym (get_word 128 old p false m))
    inside m (inr u) (inl v) =
        let q : p - low + low ≡ p = omega arith in
        let s : p - low < length part = omega arith in
        rw (le-ltb p low u, lt-ltb p (low + length part) v, number_place diff (p - low), diff_place (p - low) s, here_place (p - low) s, q) (twice (has old p) (get_or part (p - low) false))
    inside m (inr u) (inr v) =
        rw (le-ltb p low u, le-ltb p (low + length part) v, number_place diff (p - low), get_or_past diff (p - low) false (omega (arith, diff_length))) (sym (get_word 128 old p false m))

-- Runs

same_place : (at : ℤ) (i j m : ℕ) → at +ℤ pos i ≡ pos m → at +ℤ pos j ≡ pos m → i ≡ j
same_place at i j m h k = omega (arith, ints, h, k)

bit_there : (p : Piece) (b : Bit) → p.signal ≡ b.signal → b.place < p.width → bit_in p (pos b.place) ≡ Some b
bit_there p b s l = rw (le-ltb b.place 0 (omega arith), lt-ltb b.place p.width l) (ap Some (bit_eq (record { signal = p.signal; place = b.place }) b s refl))

pub piece_there : (p : Piece) (b : Bit) (vs : List Bool) (e : Environment) (j : ℕ) → covers p b ≡ true → j < p.count → p.from +ℤ pos j ≡ pos b.place → write (bits_of p) vs e b ≡ get_or vs j false
piece_there p b vs e j c l q =
    let i : IsIn p.signal p.width p.from p.count b = has_in p p.from p.count b (sym (covers_in p b) ∙ c) in
    write_there (bits_of p) vs e b j (at_run p p.from p.count j l ∙ ap (bit_in p) q ∙ bit_there p b i.signal i.there)
    (λ k h. let m : k < p.count = omega (arith, place_inside (bits_of p) b k h, piece_length p) in
    same_place p.from k j b.place ((bit_is p (p.from +ℤ pos k) b (sym (at_run p p.from p.count k m) ∙ h)).2) q)

pub piece_not : (p : Piece) (b : Bit) (vs : List Bool) (e : Environment) → covers p b ≡ false → write (bits_of p) vs e b ≡ e b
piece_not p b vs e c = write_outside (bits_of p) vs e b (sym (covers_in p b) ∙ c)

pub get_drop : (xs : List Bool) (n j : ℕ) → get_or (drop n xs) j false ≡ get_or xs (n + j) false
get_drop xs zero j = ap (λ (k : ℕ). get_or xs k false) (omega arith)
get_drop [] (suc n) j = sym (get_or_past [] (suc n + j) false (omega arith))
get_drop (x ∷ xs) (suc n) j = let s : suc (n + j) ≡ suc n + j = omega arith in get_drop xs n j ∙ ap (λ (k : ℕ). get_or (x ∷ xs) k false) s

pub env_set : (values : List ℕ) (s k : ℕ) (b : Bit) → s < length values → env_of (set values s k) b ≡ cond (nat_eq s b.signal) (get_or (word 128 k) b.place false) (env_of values b)
env_set values s k b l = elim (cases_eq s b.signal) [
  | inl q ↦ rw (eq-eqb s b.signal q, ← q, get_or-set_same values s k 0 l) refl
  | inr q ↦ rw (ne_eqb s b.signal q, get_or-set_other values s b.signal k 0 (λ r. q (sym r))) refl
]

-- the places that a range has, seen from the run's first place
pub in_range : (p : Piece) (low high : ℕ) → ((b : Bit) → covers p b ≡ (nat_eq p.signal b.signal && (not (nat_lt b.place low) && nat_lt b.place high))) → (q : ℕ) → low ≤ q → q < high →
    (j : ℕ) × (j < p.count) × (p.from +ℤ pos j ≡ pos q)
in_range p low high h q l m =
    let b : Bit = record { signal = p.signal; place = q } in
    let c : covers p b ≡ true = h b ∙ rw (eq-eqb p.signal p.signal refl, le-ltb q low l, lt-ltb q high m) refl in
    (has_in p p.from p.count b (sym (covers_in p b) ∙ c)).within

-- a run takes the bits of a word from a place up
pub piece_written : (values : List ℕ) (p : Piece) (bits part : List Bool) (from low high k : ℕ) (at : ℤ) → ((b : Bit) → covers p b ≡ (nat_eq p.signal b.signal && (not (nat_lt b.place low) && nat_lt b.place high))) →
    low < high → at ≡ pos from +ℤ (pos low -ℤ p.from) → part ≡ select bits at (high - low) →
    ((q : ℕ) → get_or (word 128 k) q false ≡ cond (not (nat_lt q low) && nat_lt q (low + length part)) (get_or part (q - low) false) (get_or (word 128 (get_or values p.signal 0)) q false)) →
    p.signal < length values → env_of (set values p.signal k) ≡ write (bits_of p) (drop from bits) (env_of values)
piece_written values p bits part from low high k at cover l a s merge in' = fun_ext (λ b. env_set values p.signal k b in' ∙ by b (cases_eq p.signal b.signal))
  where
    size : length part ≡ high - low
    size = ap length s ∙ length_tabulate (high - low) (λ i. word_bit bits (at +ℤ pos i))

    above : low + length part ≡ high
    above = omega (arith, size)

    covered : (b : Bit) → p.signal ≡ b.signal → covers p b ≡ (not (nat_lt b.place low) && nat_lt b.place high)
    covered b q = cover b ∙ rw (eq-eqb p.signal b.signal q) refl

    moved : (q j : ℕ) → low ≤ q → p.from +ℤ pos j ≡ pos q → at +ℤ pos (q - low) ≡ pos (from + j)
    moved q j u h = omega (arith, ints, a, h)

    there : (b : Bit) → p.signal ≡ b.signal → low ≤ b.place → b.place < high → get_or part (b.place - low) false ≡ write (bits_of p) (drop from bits) (env_of values) b
    there b q u v =
        let r = in_range p low high cover b.place u v in
        let c : covers p b ≡ true = covered b q ∙ rw (le-ltb b.place low u, lt-ltb b.place high v) refl in
        ap (λ (xs : List Bool). get_or xs (b.place - low) false) s
        ∙ get_tabulate (high - low) (b.place - low) (λ i. word_bit bits (at +ℤ pos i)) false (omega arith)
        ∙ ap (word_bit bits) (moved b.place r.0 u r.2)
        ∙ sym (piece_there p b (drop from bits) (env_of values) r.0 c r.1 r.2 ∙ get_drop bits from r.0)

    outside : (b : Bit) → covers p b ≡ false → env_of values b ≡ write (bits_of p) (drop from bits) (env_of values) b
    outside b c = sym (piece_not p b (drop from bits) (env_of values) c)

    by : (b : Bit) → ((p.signal ≡ b.signal) ⊎ (p.signal ≡ b.signal → ⊥)) → cond (nat_eq p.signal b.signal) (get_or (word 128 k) b.place false) (env_of values b) ≡ write (bits_of p) (drop from bits) (env_of values) b
    by b (inl q) = rw (eq-eqb p.signal b.signal q) (merge b.place ∙ inside b q (cases_lt b.place low) (cases_lt b.place high))
      where
        old : get_or (word 128 (get_or values p.signal 0)) b.place false ≡ env_of values b
        old = ap (λ (n : ℕ). get_or (word 128 (get_or values n 0)) b.place false) q

        inside : (b : Bit) → p.signal ≡ b.signal → ((b.place < low) ⊎ (low ≤ b.place)) → ((b.place < high) ⊎ (high ≤ b.place)) →
            cond (not (nat_lt b.place low) && nat_lt b.place (low + length part)) (get_or part (b.place - low) false) (get_or (word 128 (get_or values p.signal 0)) b.place false) ≡ write (bits_of p) (drop from bits) (env_of values) b
        inside b q (inl u) v = rw (lt-ltb b.place low u) (ap (λ (n : ℕ). get_or (word 128 (get_or values n 0)) b.place false) q ∙ outside b (covered b q ∙ rw (lt-ltb b.place low u) refl))
        inside b q (inr u) (inl v) = rw (le-ltb b.place low u, above, lt-ltb b.place high v) (there b q u v)
        inside b q (inr u) (inr v) =
            rw (le-ltb b.place low u, above, le-ltb b.place high v)
            (ap (λ (n : ℕ). get_or (word 128 (get_or values n 0)) b.place false) q ∙ outside b (covered b q ∙ rw (le-ltb b.place low u, le-ltb b.place high v) refl))
    by b (inr q) = rw (ne_eqb p.signal b.signal q) (outside b (cover b ∙ rw (ne_eqb p.signal b.signal q) refl))

pub piece_absent : (values : List ℕ) (p : Piece) (vs : List Bool) (low high : ℕ) → ((b : Bit) → covers p b ≡ (nat_eq p.signal b.signal && (not (nat_lt b.place low) && nat_lt b.place high))) → high ≤ low →
    env_of values ≡ write (bits_of p) vs (env_of values)
piece_absent values p vs low high cover l = fun_ext (λ b. sym (piece_not p b vs (env_of values) (cover b ∙ none b (cases_lt b.place low))))
  where
    and_false : (x : Bool) → (x && false) ≡ false
    and_false true = refl
    and_false false = refl

    none : (b : Bit) → ((b.place < low) ⊎ (low ≤ b.place)) → (nat_eq p.signal b.signal && (not (nat_lt b.place low) && nat_lt b.place high)) ≡ false
    none b (inl u) = rw (lt-ltb b.place low u) (and_false (nat_eq p.signal b.signal))
    none b (inr u) = rw (le-ltb b.place low u, le-ltb b.place high (omega arith)) (and_false (nat_eq p.signal b.signal))

-- Several runs

pub write_append : (ps qs : List (Option Bit)) (vs : List Bool) (e : Environment) → write (ps ++ qs) vs e ≡ write qs (drop (length ps) vs) (write ps vs e)
unfolding write
write_append [] qs vs e = refl
write_append (None ∷ ps) qs [] e = write_append ps qs [] e ∙ ap (λ (us : List Bool). write qs us (write ps [] e)) (drop_none (length ps) ∙ sym (drop_none (suc (length ps))))
  where
    drop_none : (n : ℕ) → drop {A = Bool} n [] ≡ []
    drop_none zero = refl
    drop_none (suc n) = refl
write_append (None ∷ ps) qs (v ∷ vs) e = write_append ps qs vs e
write_append (Some a ∷ ps) qs [] e = write_append ps qs [] (put a false e) ∙ ap (λ (us : List Bool). write qs us (write ps [] (put a false e))) (drop_none (length ps) ∙ sym (drop_none (suc (length ps))))
  where
    drop_none : (n : ℕ) → drop {A = Bool} n [] ≡ []
    drop_none zero = refl
    drop_none (suc n) = refl
write_append (Some a ∷ ps) qs (v ∷ vs) e = write_append ps qs vs (put a v e)

-- the runs so far, with one more
pub write_more : (ps : List Piece) (i j from : ℕ) (p d : Piece) (bits : List Bool) (e f g : Environment) → i < length ps → p ≡ get_or ps i d → j ≡ i + 1 → from ≡ length (all_bits (drop j ps)) →
    f ≡ write (all_bits (drop j ps)) bits e → g ≡ write (bits_of p) (drop from bits) f → g ≡ write (all_bits (drop i ps)) bits e
write_more ps i j from p d bits e f g l q r c h k =
    k ∙ ap (λ (x : Environment). write (bits_of p) (drop from bits) x) h
    ∙ ap (λ (n : ℕ). write (bits_of p) (drop n bits) (write (all_bits (drop j ps)) bits e)) c
    ∙ sym (write_append (all_bits (drop j ps)) (bits_of p) bits e)
    ∙ ap (λ (bs : List (Option Bit)). write bs bits e) (sym (all_bits_at ps i j p d l q r))

-- before the first, none is written
pub write_none : (ps : List Piece) (bits : List Bool) (e : Environment) → e ≡ write (all_bits (drop (length ps) ps)) bits e
unfolding all_bits write
write_none [] bits e = refl
write_none (p ∷ ps) bits e = write_none ps bits e

-- updates

updates_append : (xs ys : List Later) → updates_in (xs ++ ys) ≡ updates_in xs ++ updates_in ys
updates_append [] ys = refl
updates_append (x ∷ xs) ys = ap (λ (us : List Update). update_of x ∷ us) (updates_append xs ys)

-- one update more, at the end
pub applied_push : (xs : List Later) (x : Later) (e : Environment) → applied (updates_in (xs ++ x ∷ [])) e ≡ write (bits_of x.piece) (drop x.from x.bits) (applied (updates_in xs) e)
unfolding applied
applied_push xs x e = ap (λ (us : List Update). applied us e) (updates_append xs (x ∷ [])) ∙ applied_append (updates_in xs) (updates_in (x ∷ [])) e

-- one update less, at the beginning
pub applied_more : (xs : List Later) (i : ℕ) (x d : Later) (e f g : Environment) → i < length xs → x ≡ get_or xs i d → applied (updates_in (drop i xs)) e ≡ f → g ≡ write (bits_of x.piece) (drop x.from x.bits) e →
    applied (updates_in (drop (i + 1) xs)) g ≡ f
unfolding applied
applied_more xs i x d e f g l q h k =
    ap (applied (updates_in (drop (i + 1) xs))) k
    ∙ ap (λ (ys : List Later). applied (updates_in ys) e) (sym (drop_more xs i d l ∙ ap (λ (y : Later). y ∷ drop (i + 1) xs) (sym q)))
    ∙ h

pub applied_done : (xs : List Later) (i : ℕ) (e f : Environment) → length xs ≤ i → applied (updates_in (drop i xs)) e ≡ f → e ≡ f
unfolding applied
applied_done xs i e f l h = ap (λ (ys : List Later). applied (updates_in ys) e) (sym (drop_all i xs l)) ∙ h

-- a run with a bit that is there

pub record Inside (n low high : ℕ) (p : Piece) : Type 0 where
  pub signal : p.signal < n
  pub top : high ≤ 128
  pub offset : ℕ
  pub few : offset < p.count
  pub lowest : p.from +ℤ pos offset ≡ pos low

pub inside_of : (n low high : ℕ) (p : Piece) → ((b : Bit) → covers p b ≡ (nat_eq p.signal b.signal && (not (nat_lt b.place low) && nat_lt b.place high))) → low < high → Fits n p → Inside n low high p
inside_of n low high p cover l fits =
    let r = in_range p low high cover low (omega arith) l in
    let h = fits (record { signal = p.signal; place = high - 1 }) (cover (record { signal = p.signal; place = high - 1 }) ∙ rw (eq-eqb p.signal p.signal refl, le-ltb (high - 1) low (omega arith), lt-ltb (high - 1) high (omega arith)) refl) in
    record { signal = h.0; top = omega (arith, h.1); offset = r.0; few = r.1; lowest = r.2 }

-- the places of a word that it takes, as the code counts them

pub lowest_fits : (low count k : ℕ) (from : ℤ) → low ≤ 128 → count < 4294967296 → k < count → from +ℤ pos k ≡ pos low → FitsSigned w64 (to_z w64 low -ℤ to_z w64 (of_z w64 from))
lowest_fits low count k from l c m e = omega (arith, ints)

pub place_fits : (low count k f : ℕ) (from : ℤ) → low ≤ 128 → f ≤ 128 → count < 4294967296 → k < count → from +ℤ pos k ≡ pos low → FitsSigned w64 (to_z w64 f +ℤ to_z w64 (of_z w64 (to_z w64 low -ℤ to_z w64 (of_z w64 from))))
place_fits low count k f from l g c m e = omega (arith, ints)

pub place_is : (low count k f : ℕ) (from : ℤ) → low ≤ 128 → f ≤ 128 → count < 4294967296 → k < count → from +ℤ pos k ≡ pos low →
    to_z w64 (of_z w64 (to_z w64 f +ℤ to_z w64 (of_z w64 (to_z w64 low -ℤ to_z w64 (of_z w64 from))))) ≡ pos f +ℤ (pos low -ℤ from)
place_is low count k f from l g c m e = omega (arith, ints)

pub length_select : (bits : List Bool) (at : ℤ) (w : ℕ) → length (select bits at w) ≡ w
length_select bits at w = length_tabulate w (λ i. word_bit bits (at +ℤ pos i))
