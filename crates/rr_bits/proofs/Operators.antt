-- each operator on the fields is that on the word
use Rattle.std.proofs.Common.{◌≡◌, ℕ, zero, suc, ◌+◌, ◌-◌, ◌*◌, ◌/◌, ◌%◌, ◌^◌, ◌<◌, ◌≤◌, ◌==◌, Bool, true, false, cond, not, ◌&&◌, ◌||◌, List, ◌++◌, length, get_or, refl, sym, ◌∙◌, ap, arith, ◌⊎◌, inl, inr, nat_lt, ℤ, int_div, int_rem, pos, negsuc, ◌+ℤ◌, ◌-ℤ◌, int_lt}
use Rattle.std.specs.Int.RustNames.{bit_or, bit_xor, bit_and}
use Rattle.std.proofs.Math.Pow.{mod-mod-pow}
use Rattle.std.proofs.Math.Nat.{mod-eq_of_lt, add-mul-mod_self_left}
use Rattle.std.proofs.lemmas.Nat.{pow-add, pow_pos, shl_whole, or_shifted}
use Rattle.std.proofs.lemmas.Nat.Bits.{ones_shr}
use Rattle.std.proofs.lemmas.Bool.{lt-ltb, le-ltb, cases_lt, ltb-true, cases_Bool, true≢false, and_parts, cond-false, ne_eqb}
use Rattle.std.proofs.lemmas.Int.{ints}
use lib.IntN.{nat_abs, neg_ℤ}
use Rattle.std.proofs.lemmas.List.{length-append, get_or_past, get_or_default}
use lib.Signed.{lt_z}
use mathlib.Core.Bool.{beq}
use Rattle.rr_bits.specs.Words.{number, word, tabulate, add, sub, mul, shl, shr, top, extend, inverted, sar, select, bit_in, less, both, either, one_of, negated, reading, of_integer, quotient, remainder, power}
use Rattle.rr_bits.specs.Fields.{length_word, number_word}
use Rattle.rr_bits.proofs.Numbers.{word_wrapped, word_same, number-lt, word_number, number_append}
use Rattle.rr_bits.proofs.Places.{has, has_zero, has_above, has_shr, has_shl, get_word, get_past, word_tabulated, has_and, has_or, has_xor_true, has_xor_false, has_ones, length_tabulate, get_tabulate, tabulate_same}

-- the fields w and a hold the word xs
pub record Held (w a : ℕ) (xs : List Bool) : Type 0 where
  pub low : 1 ≤ w
  pub high : w ≤ 128
  pub small : a < 2 ^ w
  pub same : word w a ≡ xs
  pub width : length xs ≡ w
  pub value : number xs ≡ a

pub held : (w a : ℕ) (xs : List Bool) → (1 ≤ w) × (w ≤ 128) × (a < 2 ^ w) → word w a ≡ xs → Held w a xs
held w a xs h e = record {
  low = h.0;
  high = h.1;
  small = h.2;
  same = e;
  width = ap length (sym e) ∙ length_word w a;
  value = ap number (sym e) ∙ number_word w a ∙ mod-eq_of_lt h.2;
}

-- a word of the same length is held too
pub alike : (w a : ℕ) (xs ys : List Bool) → Held w a xs → length xs ≡ length ys → Held w (number ys) ys
alike w a xs ys s e =
    let k : length ys ≡ w = sym e ∙ s.width in
    record {
      low = s.low;
      high = s.high;
      small = rw k at (number-lt ys);
      same = rw k at (word_number ys);
      width = k;
      value = refl;
    }

-- the bits of the word are those of the number, and false above
pub bit_held : (w a : ℕ) (xs : List Bool) (i : ℕ) → Held w a xs → get_or xs i false ≡ has a i
bit_held w a xs i s = rw (← s.same) (by_cases (cases_lt i w))
  where
    by_cases : ((i < w) ⊎ (w ≤ i)) → get_or (word w a) i false ≡ has a i
    by_cases (inl l) = get_word w a i false l
    by_cases (inr l) = get_past w a i false l ∙ sym (has_above a w i s.small l)

pub mask_is : (w : ℕ) → 1 ≤ w → w ≤ 128 → (2 ^ 128 - 1) / 2 ^ (128 - w) ≡ 2 ^ w - 1
mask_is w l h =
    let e : 128 - (128 - w) ≡ w = omega arith in
    rw e at (ones_shr 128 (128 - w) (omega arith))

pub add_is : (w a b : ℕ) (xs ys : List Bool) → Held w a xs → number ys ≡ b → word w ((a + b) % 2 ^ 128) ≡ add xs ys
add_is w a b xs ys s e = rw (s.width, s.value, e) (word_wrapped w (a + b) s.high)

pub mul_is : (w a b : ℕ) (xs ys : List Bool) → Held w a xs → number ys ≡ b → word w ((a * b) % 2 ^ 128) ≡ mul xs ys
mul_is w a b xs ys s e = rw (s.width, s.value, e) (word_wrapped w (a * b) s.high)

-- 2 ^ 128 is a multiple of p = 2 ^ w
borrowed : (a b p q : ℕ) → 0 < q → b < p → (a + (p * q - b)) % p ≡ (a + (p - b)) % p
borrowed a b p zero h l = absurd (omega arith)
borrowed a b p (suc q) h l =
    let m : p * suc q ≡ p * q + p = omega arith in
    let e : a + (p * suc q - b) ≡ (a + (p - b)) + p * q = omega arith in
    rw e (add-mul-mod_self_left (a + (p - b)) p q)

-- the difference modulo 2 ^ 128, read modulo 2 ^ w
sub_mod : (w a b : ℕ) → w ≤ 128 → b < 2 ^ w → (a + (2 ^ 128 - b)) % 2 ^ w ≡ (a + (2 ^ w - b)) % 2 ^ w
sub_mod w a b h l =
    let e : 2 ^ 128 ≡ 2 ^ w * 2 ^ (128 - w) = let k : 128 ≡ w + (128 - w) = omega arith in ap (λ n. 2 ^ n) k ∙ pow-add 2 w (128 - w) in
    rw e (borrowed a b (2 ^ w) (2 ^ (128 - w)) (pow_pos (128 - w)) l)

sub_word : (w a b : ℕ) → w ≤ 128 → b < 2 ^ w → word w ((a + (2 ^ 128 - b)) % 2 ^ 128) ≡ word w (a + (2 ^ w - b))
sub_word w a b h l = word_wrapped w (a + (2 ^ 128 - b)) h ∙ word_same w (a + (2 ^ 128 - b)) (a + (2 ^ w - b)) (sub_mod w a b h l)

-- the remainder modulo a smaller power
narrow : (n k w : ℕ) → w ≤ k → n % 2 ^ k % 2 ^ w ≡ n % 2 ^ w
narrow n k w h = let e : k ≡ (k - w) + w = omega arith in rw e (mod-mod-pow n (k - w) w)

narrowed : (n w : ℕ) → w ≤ 128 → n % 2 ^ 128 % 2 ^ w ≡ n % 2 ^ w
narrowed n w h = narrow n 128 w h

pub sub_is : (w a b : ℕ) (xs ys : List Bool) → Held w a xs → Held w b ys → word w ((a + (2 ^ 128 - b)) % 2 ^ 128) ≡ sub xs ys
sub_is w a b xs ys s o = rw (s.width, s.value, o.value) (sub_word w a b s.high o.small)

pub shl_is : (w a k : ℕ) (xs : List Bool) → Held w a xs → word w ((a * 2 ^ k) % 2 ^ 128) ≡ shl xs k
shl_is w a k xs s = rw s.width (word_wrapped w (a * 2 ^ k) s.high ∙ word_tabulated w (a * 2 ^ k) (λ i. cond (nat_lt i k) false (get_or xs (i - k) false)) (λ i l. has_shl a k i ∙ ap (cond (nat_lt i k) false) (sym (bit_held w a xs (i - k) s))))

pub shl_past : (w a k : ℕ) (xs : List Bool) → Held w a xs → w ≤ k → word w 0 ≡ shl xs k
shl_past w a k xs s h = rw s.width (word_tabulated w 0 (λ i. cond (nat_lt i k) false (get_or xs (i - k) false)) (λ i l. rw (lt-ltb i k (omega arith)) (has_zero i)))

pub shr_is : (w a k : ℕ) (xs : List Bool) → Held w a xs → word w (a / 2 ^ k) ≡ shr xs k
shr_is w a k xs s = rw s.width (word_tabulated w (a / 2 ^ k) (λ i. get_or xs (i + k) false) (λ i l. has_shr a k i ∙ sym (bit_held w a xs (i + k) s)))

pub shr_past : (w a k : ℕ) (xs : List Bool) → Held w a xs → w ≤ k → word w 0 ≡ shr xs k
shr_past w a k xs s h = rw s.width (word_tabulated w 0 (λ i. get_or xs (i + k) false) (λ i l. has_zero i ∙ sym (bit_held w a xs (i + k) s ∙ has_above a w (i + k) s.small (omega arith))))

pub inverted_is : (w a : ℕ) (xs : List Bool) → Held w a xs → word w (bit_xor a (2 ^ w - 1)) ≡ inverted xs
inverted_is w a xs s = rw s.width (word_tabulated w (bit_xor a (2 ^ w - 1)) (λ i. not (get_or xs i false)) (λ i l. has_xor_true a (2 ^ w - 1) i (has_ones w i ∙ lt-ltb i w l) ∙ ap not (sym (bit_held w a xs i s))))

-- a bit of a held word, or what stands above it
pub bit_above : (w a : ℕ) (xs : List Bool) (i : ℕ) (fill : Bool) → Held w a xs → w ≤ i → get_or xs i fill ≡ fill
bit_above w a xs i fill s l = let e = s.width in get_or_past xs i fill (omega arith)

pub bit_below : (w a : ℕ) (xs : List Bool) (i : ℕ) (fill : Bool) → Held w a xs → i < w → get_or xs i fill ≡ has a i
bit_below w a xs i fill s l = rw (← s.same) (get_word w a i fill l)

or_false : (x : Bool) → (x || false) ≡ x
or_false true = refl
or_false false = refl

or_true : (x : Bool) → (x || true) ≡ true
or_true true = refl
or_true false = refl

pub extend_ones : (v w a : ℕ) (signed : Bool) (xs : List Bool) → Held w a xs → v ≤ 128 → signed ≡ true → top xs ≡ true → word v (bit_or a (bit_xor (2 ^ w - 1) (2 ^ 128 - 1))) ≡ extend v signed xs
extend_ones v w a signed xs s h e t =
    rw (e, t) (word_tabulated v (bit_or a (bit_xor (2 ^ w - 1) (2 ^ 128 - 1))) (λ i. get_or xs i true) (λ i l. has_or a (bit_xor (2 ^ w - 1) (2 ^ 128 - 1)) i ∙ by_cases i l (cases_lt i w)))
  where
    flipped : (i : ℕ) → i < v → has (bit_xor (2 ^ w - 1) (2 ^ 128 - 1)) i ≡ not (has (2 ^ w - 1) i)
    flipped i l = has_xor_true (2 ^ w - 1) (2 ^ 128 - 1) i (has_ones 128 i ∙ lt-ltb i 128 (omega arith))

    by_cases : (i : ℕ) → i < v → ((i < w) ⊎ (w ≤ i)) → (has a i || has (bit_xor (2 ^ w - 1) (2 ^ 128 - 1)) i) ≡ get_or xs i true
    by_cases i l (inl p) = rw (flipped i l, has_ones w i, lt-ltb i w p, bit_below w a xs i true s p) (or_false (has a i))
    by_cases i l (inr p) = rw (flipped i l, has_ones w i, le-ltb i w p, bit_above w a xs i true s p) (or_true (has a i))

pub extend_zeros : (v w a : ℕ) (signed : Bool) (xs : List Bool) → Held w a xs → (signed && top xs) ≡ false → word v a ≡ extend v signed xs
extend_zeros v w a signed xs s e = rw e (word_tabulated v a (λ i. get_or xs i false) (λ i l. sym (bit_held w a xs i s)))

not_not : (x : Bool) → not (not x) ≡ x
not_not true = refl
not_not false = refl

pub sar_ones : (xs : List Bool) (k : ℕ) → top xs ≡ true → inverted (shr (inverted xs) k) ≡ sar xs k
sar_ones xs k t =
    ap (λ n. tabulate n (λ i. not (get_or (shr (inverted xs) k) i false))) (length_tabulate (length (inverted xs)) (λ j. get_or (inverted xs) (j + k) false) ∙ same_length)
    ∙ tabulate_same (length xs) (λ i. not (get_or (shr (inverted xs) k) i false)) (λ i. get_or xs (i + k) (top xs)) (λ i l. ap not (moved i l) ∙ by_cases i (cases_lt (i + k) (length xs)))
  where
    same_length : length (inverted xs) ≡ length xs
    same_length = length_tabulate (length xs) (λ i. not (get_or xs i false))

    moved : (i : ℕ) → i < length xs → get_or (shr (inverted xs) k) i false ≡ get_or (inverted xs) (i + k) false
    moved i l = get_tabulate (length (inverted xs)) i (λ j. get_or (inverted xs) (j + k) false) false (rw same_length l)

    by_cases : (i : ℕ) → ((i + k < length xs) ⊎ (length xs ≤ i + k)) → not (get_or (inverted xs) (i + k) false) ≡ get_or xs (i + k) (top xs)
    by_cases i (inl p) = ap not (get_tabulate (length xs) (i + k) (λ j. not (get_or xs j false)) false p) ∙ not_not (get_or xs (i + k) false) ∙ get_or_default xs (i + k) false (top xs) p
    by_cases i (inr p) = ap not (get_or_past (inverted xs) (i + k) false (let e = same_length in omega arith)) ∙ sym t ∙ sym (get_or_past xs (i + k) (top xs) p)

pub sar_zeros : (xs : List Bool) (k : ℕ) → top xs ≡ false → shr xs k ≡ sar xs k
sar_zeros xs k t = rw t refl

-- a place below the word
below : (xs : List Bool) (n i : ℕ) → bit_in xs (negsuc n +ℤ pos i) ≡ cond (nat_lt i (suc n)) false (get_or xs (i - suc n) false)
below xs n i = by_cases (cases_lt i (suc n))
  where
    by_cases : ((i < suc n) ⊎ (suc n ≤ i)) → bit_in xs (negsuc n +ℤ pos i) ≡ cond (nat_lt i (suc n)) false (get_or xs (i - suc n) false)
    by_cases (inl p) = let e : negsuc n +ℤ pos i ≡ negsuc (n - i) = omega (arith, ints) in rw (e, lt-ltb i (suc n) p) refl
    by_cases (inr p) = let e : negsuc n +ℤ pos i ≡ pos (i - suc n) = omega (arith, ints) in rw (e, le-ltb i (suc n) p) refl

pub select_past : (v w a far : ℕ) (xs : List Bool) (from : ℤ) → Held w a xs → far ≡ nat_abs from → 128 ≤ far → v ≤ 128 → word v 0 ≡ select xs from v
select_past v w a far xs (pos n) s e h l = word_tabulated v 0 (λ i. bit_in xs (pos n +ℤ pos i)) (λ i b. has_zero i ∙ sym (let m = s.high in bit_above w a xs (n + i) false s (omega arith)))
select_past v w a far xs (negsuc n) s e h l = word_tabulated v 0 (λ i. bit_in xs (negsuc n +ℤ pos i)) (λ i b. has_zero i ∙ sym (below xs n i ∙ rw (lt-ltb i (suc n) (omega arith)) refl))

pub select_up : (v w a far : ℕ) (xs : List Bool) (from : ℤ) → Held w a xs → far ≡ nat_abs from → lt_z from (pos 0) ≡ false → word v (a / 2 ^ far) ≡ select xs from v
select_up v w a far xs (pos n) s e h = rw e (word_tabulated v (a / 2 ^ n) (λ i. bit_in xs (pos n +ℤ pos i)) (λ i b. has_shr a n i ∙ (let c : i + n ≡ n + i = omega arith in rw c (sym (bit_held w a xs (n + i) s)))))
select_up v w a far xs (negsuc n) s e h = cc

pub select_down : (v w a far : ℕ) (xs : List Bool) (from : ℤ) → Held w a xs → v ≤ 128 → far ≡ nat_abs from → lt_z from (pos 0) ≡ true → word v ((a * 2 ^ far) % 2 ^ 128) ≡ select xs from v
select_down v w a far xs (pos n) s l e h = absurd (let k : n < 0 = ltb-true n 0 h in omega arith)
select_down v w a far xs (negsuc n) s l e h = rw e (word_wrapped v (a * 2 ^ suc n) l ∙ word_tabulated v (a * 2 ^ suc n) (λ i. bit_in xs (negsuc n +ℤ pos i)) (λ i b. has_shl a (suc n) i ∙ ap (cond (nat_lt i (suc n)) false) (sym (bit_held w a xs (i - suc n) s)) ∙ sym (below xs n i)))

both_negative : (a b p : ℕ) → a < p → b < p → nat_lt a b ≡ int_lt (pos a -ℤ pos p) (pos b -ℤ pos p)
both_negative a b p h l = grind (arith, ints)

same_sign : (t u : Bool) (a b p q : ℕ) → t ≡ u → p ≡ q → a < p → b < p → nat_lt a b ≡ int_lt (cond t (pos a -ℤ pos p) (pos a)) (cond u (pos b -ℤ pos q) (pos b))
same_sign true true a b p q e f h l = rw (← f) (both_negative a b p h l)
same_sign false false a b p q e f h l = refl
same_sign true false a b p q e f h l = cc
same_sign false true a b p q e f h l = cc

pub less_is : (w a b : ℕ) (signed : Bool) (xs ys : List Bool) → Held w a xs → Held w b ys → (signed ≡ true → top xs ≡ top ys) → nat_lt a b ≡ less signed xs ys
less_is w a b false xs ys s o h = rw (s.value, o.value) refl
less_is w a b true xs ys s o h =
    let p : 2 ^ length xs ≡ 2 ^ length ys = ap (λ n. 2 ^ n) (s.width ∙ sym o.width) in
    rw (← s.value, ← o.value) (same_sign (top xs) (top ys) (number xs) (number ys) (2 ^ length xs) (2 ^ length ys) (h refl) p (number-lt xs) (rw p (number-lt ys)))

pub same_test : (x y : Bool) → not (beq x y) ≡ false → x ≡ y
same_test true true h = refl
same_test false false h = refl
same_test true false h = cc
same_test false true h = cc

pub and_is : (w a b : ℕ) (xs ys : List Bool) → Held w a xs → Held w b ys → word w (bit_and a b) ≡ both xs ys
and_is w a b xs ys s o = rw s.width (word_tabulated w (bit_and a b) (λ i. get_or xs i false && get_or ys i false) (λ i l. has_and a b i ∙ rw (bit_held w a xs i s, bit_held w b ys i o) refl))

pub or_is : (w a b : ℕ) (xs ys : List Bool) → Held w a xs → Held w b ys → word w (bit_or a b) ≡ either xs ys
or_is w a b xs ys s o = rw s.width (word_tabulated w (bit_or a b) (λ i. get_or xs i false || get_or ys i false) (λ i l. has_or a b i ∙ rw (bit_held w a xs i s, bit_held w b ys i o) refl))

pub xor_is : (w a b : ℕ) (xs ys : List Bool) → Held w a xs → Held w b ys → word w (bit_xor a b) ≡ one_of xs ys
xor_is w a b xs ys s o = rw s.width (word_tabulated w (bit_xor a b) (λ i. cond (get_or ys i false) (not (get_or xs i false)) (get_or xs i false)) (λ i l. rw (bit_held w a xs i s, bit_held w b ys i o) (by_cases i (cases_Bool (has b i)))))
  where
    by_cases : (i : ℕ) → ((has b i ≡ true) ⊎ (has b i ≡ false)) → has (bit_xor a b) i ≡ cond (has b i) (not (has a i)) (has a i)
    by_cases i (inl e) = rw e (has_xor_true a b i e)
    by_cases i (inr e) = rw e (has_xor_false a b i e)

pub negated_is : (w a : ℕ) (xs : List Bool) → Held w a xs → word w ((0 + (2 ^ 128 - a)) % 2 ^ 128) ≡ negated xs
negated_is w a xs s =
    let e : 0 + (2 ^ w - a) ≡ 2 ^ w - a = omega arith in
    sub_word w 0 a s.high s.small ∙ rw (s.width, s.value, e) refl

-- a word whose top bit is set is not 0
top_positive : (w a : ℕ) (xs : List Bool) → Held w a xs → top xs ≡ true → 0 < a
top_positive w zero xs s t = absurd (true≢false (sym t ∙ bit_held w 0 xs (length xs - 1) s ∙ has_zero (length xs - 1)))
top_positive w (suc a) xs s t = omega arith

below_zero : (a p : ℕ) → a < p → pos a -ℤ pos p ≡ negsuc (p - suc a)
below_zero a p h = omega (arith, ints)

pub magnitude_negative : (w a : ℕ) (signed : Bool) (xs : List Bool) → Held w a xs → (signed && top xs) ≡ true → ((0 + (2 ^ 128 - a)) % 2 ^ 128) % 2 ^ w ≡ nat_abs (reading signed xs)
magnitude_negative w a signed xs s e =
    let k : 128 ≡ (128 - w) + w = let h = s.high in omega arith in
    let z = top_positive w a xs s (and_parts signed (top xs) e).1 in
    let small = s.small in
    let m : 0 + (2 ^ w - a) < 2 ^ w = omega arith in
    let n : 0 + (2 ^ w - a) ≡ suc (2 ^ w - suc a) = omega arith in
    narrowed (0 + (2 ^ 128 - a)) w s.high ∙ sub_mod w 0 a s.high s.small ∙ mod-eq_of_lt m ∙ n ∙ sym (rw (e, s.value, s.width, below_zero a (2 ^ w) s.small) refl)

pub magnitude_plain : (w a : ℕ) (signed : Bool) (xs : List Bool) → Held w a xs → (signed && top xs) ≡ false → a ≡ nat_abs (reading signed xs)
magnitude_plain w a signed xs s e = rw (e, s.value) refl

-- the word of an integer with its sign turned
of_negated : (w q : ℕ) → of_integer w (neg_ℤ (pos q)) ≡ negated (word w q)
of_negated w zero =
    let p = pow_pos w in
    let z : 0 % 2 ^ w ≡ 0 = omega arith in
    let k : 2 ^ w - 0 ≡ 0 + 2 ^ w * 1 = omega arith in
    let e : (2 ^ w - 0) % 2 ^ w ≡ 0 % 2 ^ w = rw k (add-mul-mod_self_left 0 (2 ^ w) 1) in
    rw (length_word, number_word, z) (sym (word_same w (2 ^ w - 0) 0 e))
of_negated w (suc q) = refl

-- the divisor is 0 exactly where its magnitude is
zero_magnitude : (w b : ℕ) (signed : Bool) (ys : List Bool) → Held w b ys → (number ys == 0) ≡ (nat_abs (reading signed ys) == 0)
zero_magnitude w b signed ys o = by_cases (cases_Bool (signed && top ys))
  where
    positive : (k : ℕ) → 0 < k → (k == 0) ≡ false
    positive zero h = absurd (omega arith)
    positive (suc k) h = ne_eqb (suc k) 0 (λ e. omega arith)

    by_cases : (((signed && top ys) ≡ true) ⊎ ((signed && top ys) ≡ false)) → (number ys == 0) ≡ (nat_abs (reading signed ys) == 0)
    by_cases (inl e) =
        let z = top_positive w b ys o (and_parts signed (top ys) e).1 in
        rw (e, o.value, o.width, below_zero b (2 ^ w) o.small) (positive b z ∙ sym (positive (suc (2 ^ w - suc b)) (omega arith)))
    by_cases (inr e) = rw e refl

quotient_core : (t u : Bool) (a b p w : ℕ) → a < p → b < p → of_integer w (int_div (cond t (pos a -ℤ pos p) (pos a)) (cond u (pos b -ℤ pos p) (pos b))) ≡ cond (not (beq t u)) (negated (word w (nat_abs (cond t (pos a -ℤ pos p) (pos a)) / nat_abs (cond u (pos b -ℤ pos p) (pos b))))) (word w (nat_abs (cond t (pos a -ℤ pos p) (pos a)) / nat_abs (cond u (pos b -ℤ pos p) (pos b))))
quotient_core true true a b p w h l = rw (below_zero a p h, below_zero b p l) refl
quotient_core true false a b p w h l = rw (below_zero a p h) (of_negated w (suc (p - suc a) / b))
quotient_core false true a b p w h l = rw (below_zero b p l) (of_negated w (a / suc (p - suc b)))
quotient_core false false a b p w h l = refl

remainder_core : (t : Bool) (a p w : ℕ) (d : ℤ) → a < p → of_integer w (int_rem (cond t (pos a -ℤ pos p) (pos a)) d) ≡ cond t (negated (word w (nat_abs (cond t (pos a -ℤ pos p) (pos a)) % nat_abs d))) (word w (nat_abs (cond t (pos a -ℤ pos p) (pos a)) % nat_abs d))
remainder_core true a p w d h = rw (below_zero a p h) (of_negated w (suc (p - suc a) % nat_abs d))
remainder_core false a p w d h = refl

pub quotient_zero : (w b : ℕ) (signed : Bool) (xs ys : List Bool) → length xs ≡ w → Held w b ys → nat_abs (reading signed ys) ≡ 0 → word w 0 ≡ quotient signed xs ys
quotient_zero w b signed xs ys e o z = rw (zero_magnitude w b signed ys o, z, e) refl

pub remainder_zero : (w b : ℕ) (signed : Bool) (xs ys : List Bool) → length xs ≡ w → Held w b ys → nat_abs (reading signed ys) ≡ 0 → word w 0 ≡ remainder signed xs ys
remainder_zero w b signed xs ys e o z = rw (zero_magnitude w b signed ys o, z, e) refl

pub quotient_is : (w a b : ℕ) (signed : Bool) (xs ys : List Bool) → Held w a xs → Held w b ys → (nat_abs (reading signed ys) == 0) ≡ false → quotient signed xs ys ≡ cond (not (beq (signed && top xs) (signed && top ys))) (negated (word w (nat_abs (reading signed xs) / nat_abs (reading signed ys)))) (word w (nat_abs (reading signed xs) / nat_abs (reading signed ys)))
quotient_is w a b signed xs ys s o z =
    cond-false _ _ _ (zero_magnitude w b signed ys o ∙ z)
    ∙ (rw (ap (λ n. 2 ^ n) s.width, ap (λ n. 2 ^ n) o.width, ap of_integer s.width) (quotient_core (signed && top xs) (signed && top ys) (number xs) (number ys) (2 ^ w) w (rw s.value s.small) (rw o.value o.small)))

pub remainder_is : (w a b : ℕ) (signed : Bool) (xs ys : List Bool) → Held w a xs → Held w b ys → (nat_abs (reading signed ys) == 0) ≡ false → remainder signed xs ys ≡ cond (signed && top xs) (negated (word w (nat_abs (reading signed xs) % nat_abs (reading signed ys)))) (word w (nat_abs (reading signed xs) % nat_abs (reading signed ys)))
remainder_is w a b signed xs ys s o z =
    cond-false _ _ _ (zero_magnitude w b signed ys o ∙ z)
    ∙ (rw (ap (λ n. 2 ^ n) s.width, ap of_integer s.width) (remainder_core (signed && top xs) (number xs) (2 ^ w) w (reading signed ys) (rw s.value s.small)))

pub power_is : (w a p k : ℕ) (xs : List Bool) → Held w a xs → p % 2 ^ 128 ≡ (a ^ k) % 2 ^ 128 → word w p ≡ power xs k
power_is w a p k xs s e = rw (s.width, s.value) (sym (word_wrapped w p s.high) ∙ ap (word w) e ∙ word_wrapped w (a ^ k) s.high)

-- the low bits first, and the high ones above them
pub append_is : (v w a b : ℕ) (xs ys : List Bool) → Held v a xs → Held w b ys → v + w ≤ 128 → word (v + w) (bit_or ((b * 2 ^ v) % 2 ^ 128) a) ≡ xs ++ ys
append_is v w a b xs ys s o h =
    let whole : b * 2 ^ v % 2 ^ 128 ≡ b * 2 ^ v = shl_whole b w v 128 o.small (omega arith) in
    let joined : bit_or (b * 2 ^ v) a ≡ b * 2 ^ v + a = or_shifted b v a s.small in
    let w = rw (length-append, number_append, s.width, o.width, s.value, o.value) at (word_number (xs ++ ys)) in
    rw (whole, joined) w
